use Rattle.std.proofs.Common.{sym, append-nil}
use Rattle.std.proofs.lemmas.Option.{slice_get_past}
use Rattle.ns_code.proofs.naming.put_named.Goals as goal

pub returns-in-None : goal.returns-in-None
returns-in-None c =
    rw (slice_get_past c.args.classes.now c.args.class c.in-None.ensures.lookup.3) (sym (append-nil c.args.listed.now.items))
