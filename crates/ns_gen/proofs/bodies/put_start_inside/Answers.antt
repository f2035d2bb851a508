use Rattle.std.specs.Prelude.{option_map}
use Rattle.ns_tree.specs.PlainOf.{clause_of, bars_of, statements_of}
use Rattle.ns_gen_draft.specs.Standing.{standing}
use Rattle.ns_gen_draft.specs.laws.Numbers.{behind_both}
use Rattle.ns_gen.proofs.Declarations.{inner_put}
use Rattle.ns_gen.proofs.bodies.put_start_inside.Goals as goal

pub returns-clause-put : goal.returns-clause-put
returns-clause-put c =
    inner_put (standing c.args.here.now) c.args.next.now c.put_super.new.next (option_map clause_of c.args.clause.now) (bars_of c.args.slots.now)
    (statements_of c.args.body.now) c.args.output.now c.put_super.new.output c.put_routine_inside.new.output
    c.in_ok-put_super.ensures.put c.in_ok-put_super.ensures.next c.in_ok-put_routine_inside.ensures.put

pub returns-clause-next : goal.returns-clause-next
returns-clause-next c =
    behind_both _ _ c.args.next.now c.put_super.new.next c.put_routine_inside.new.next c.in_ok-put_super.ensures.next c.in_ok-put_routine_inside.ensures.next
