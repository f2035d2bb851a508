use Rattle.std.specs.Prelude.{◌+◌, length}
use Rattle.ns_tree.specs.PlainOf.{bars_of, statements_of}
use Rattle.ns_scope.specs.Bodies as b
use Rattle.ns_resolved.specs.Statements.{bars_bodies, statements_bodies}
use Rattle.ns_gen_draft.specs.Standing.{standing}
use Rattle.ns_gen_draft.specs.laws.Numbers.{behind_both}
use Rattle.ns_gen.proofs.Onward.{both_put}
use Rattle.ns_gen.proofs.bodies.put_routine_inside.Goals as goal

pub returns-clause-put : goal.returns-clause-put
returns-clause-put c =
    let here = standing c.args.here.now in
    both_put (bars_bodies here c.args.next.now (bars_of c.args.slots.now)) (λ n. statements_bodies here n (statements_of c.args.body.now))
    (c.args.next.now + length (b.bars_blocks here.scope (bars_of c.args.slots.now))) c.put_bars.new.next c.args.output.now c.put_bars.new.output
    c.put_statements.new.output c.in_ok-put_bars.ensures.put c.in_ok-put_bars.ensures.next c.in_ok-put_statements.ensures.put

pub returns-clause-next : goal.returns-clause-next
returns-clause-next c =
    behind_both _ _ c.args.next.now c.put_bars.new.next c.put_statements.new.next c.in_ok-put_bars.ensures.next c.in_ok-put_statements.ensures.next
