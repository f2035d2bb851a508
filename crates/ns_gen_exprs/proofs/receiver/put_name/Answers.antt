use Rattle.std.proofs.Common.{◌≡◌, subst}
use Rattle.std.specs.Prelude.{OnOk}
use Rattle.ns_gen_draft.specs.Standing.{standing}
use Rattle.ns_gen_exprs.proofs.Walking.{name_put}
use Rattle.ns_gen_exprs.proofs.receiver.put_name.Goals as goal

pub returns : goal.returns
returns c =
    subst (λ after. OnOk c.sends.result (c.sends.new.self ≡ after))
    (name_put (standing c.args.here.now) c.args.receiver.now c.args.name.now c.place.result c.in_ok-way.way c.args.writer.now c.begin.new.writer
    c.place.ensures (rw c.bytes-selector.ensures at c.in_ok-way.ensures.way) (rw c.bytes-selector.ensures at c.in_ok-way.ensures.lines))
    (rw c.bytes-selector.ensures at c.sends.ensures.put)
