use Rattle.std.proofs.Common.{sym, ◌∙◌}
use Rattle.ns_frozen_seen.specs.Seen.{heap_of}
use Rattle.ns_frozen_valid.proofs.Ended.{ends_so}
use Rattle.ns_frozen_valid.proofs.rest.is_good_end.Goals as goal

pub returns-then-ends_in : goal.returns-then-ends_in
returns-then-ends_in c =
    c.is_good_ending.ensures c.args.phase
    ∙ ends_so c.args.seen.now.code.now (heap_of c.args.seen.now) c.args.phase c.in-Some.ending c.args.ending c.in-Some.is
    (sym c.ends_in.ensures ∙ c.if-ends_in.true)
