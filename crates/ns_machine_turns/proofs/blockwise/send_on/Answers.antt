use Rattle.std.proofs.Common.{arith}
use Rattle.ns_machine_plan.specs.Packed.{step_in}
use Rattle.ns_machine_plan.specs.Steps.{step_shown}
use Rattle.ns_machine_turns.proofs.Fetched.{few_steps}
use Rattle.ns_machine_turns.proofs.blockwise.send_on.Goals as goal

pub overflow_add-behind : goal.overflow_add-behind
overflow_add-behind c =
    let there = c.fetch_kept-step.ensures.ahead.there.next_there in
    let few = few_steps c.args.code.now c.running-frame.result.activation.body c.requires.prepared.of_code.fits in
    omega (arith, there, few)

pub send_step-requires-clause-can : goal.send_step-requires-clause-can
send_step-requires-clause-can c =
    c.moves_keep_machines_ready.ensures.can c.args.code.now c.requires.can.grants c.args.core.now c.args.at
    (step_shown c.args.core.now.places (step_in c.fetch_kept-step.result)) c.requires.can.ready c.fetch_kept-step.ensures.ahead.next
