use Rattle.std.proofs.Common.{refl, arith}
use Rattle.ns_world.specs.declared.value.Value.TheVariants.{Ref}
use Rattle.ns_machine_frames.specs.declared.registers.Registers.{Registers}
use Rattle.ns_machine_core.specs.declared.state.Next.TheVariants.{On}
use Rattle.ns_machine_turns.specs.Looping.{BlockStands}
use Rattle.ns_machine_turns.proofs.Looped.{block_stands, evaluated_few, evaluated_gone}
use Rattle.ns_machine_turns.proofs.repeating.turn_over.Goals as goal

pub evaluate-requires : goal.evaluate-requires
evaluate-requires c =
    let here : Registers = c.args.at in
    let at : Registers = record { next = c.in-Evaluates.next; top = c.in-Evaluates.top; base = c.in-Evaluates.base } in
    let waits = c.in-Evaluates.ensures in (
      waits.looping,
      block_stands c.args.code.now c.args.plan.now c.args.own c.args.left c.args.core.now (On here) c.end_turn.new.core at waits.looping (Ref c.in-Evaluates.cell)
          c.in-Evaluates.cell refl waits.along waits.top waits.place,
    )

pub returns-in-Evaluates-clause-gone : goal.returns-in-Evaluates-clause-gone
returns-in-Evaluates-clause-gone c =
    let here : Registers = c.args.at in
    let at : Registers = record { next = c.in-Evaluates.next; top = c.in-Evaluates.top; base = c.in-Evaluates.base } in
    let waits = c.in-Evaluates.ensures in
    let stands : BlockStands c.args.code.now c.end_turn.new.core at waits.looping c.in-Evaluates.cell =
    block_stands c.args.code.now c.args.plan.now c.args.own c.args.left c.args.core.now (On here) c.end_turn.new.core at waits.looping (Ref c.in-Evaluates.cell)
    c.in-Evaluates.cell refl waits.along waits.top waits.place in
    evaluated_gone c.args.code.now (c.moves_go_along.ensures c.args.code.now) (c.moves_charge_one.ensures.moves c.args.code.now) c.args.plan.now c.args.own
    c.args.left c.args.core.now c.end_turn.new.core c.evaluate.new.core here at c.in-Evaluates.cell c.evaluate.result waits (c.evaluate.ensures waits.looping stands)

pub returns-in-Evaluates-clause-few : goal.returns-in-Evaluates-clause-few
returns-in-Evaluates-clause-few c =
    let here : Registers = c.args.at in
    let at : Registers = record { next = c.in-Evaluates.next; top = c.in-Evaluates.top; base = c.in-Evaluates.base } in
    let waits = c.in-Evaluates.ensures in
    let stands : BlockStands c.args.code.now c.end_turn.new.core at waits.looping c.in-Evaluates.cell =
    block_stands c.args.code.now c.args.plan.now c.args.own c.args.left c.args.core.now (On here) c.end_turn.new.core at waits.looping (Ref c.in-Evaluates.cell)
    c.in-Evaluates.cell refl waits.along waits.top waits.place in
    evaluated_few c.args.code.now (c.moves_go_along.ensures c.args.code.now) (c.moves_charge_one.ensures.moves c.args.code.now) c.args.plan.now c.args.own
    c.args.left c.args.core.now c.end_turn.new.core c.evaluate.new.core here at c.in-Evaluates.cell c.evaluate.result waits (c.evaluate.ensures waits.looping stands)

pub returns-in-Goes-clause-few : goal.returns-in-Goes-clause-few
returns-in-Goes-clause-few c = let one = c.in-Goes.ensures.1 in omega (arith, one)
