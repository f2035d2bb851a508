use Rattle.ns_machine_plan.specs.Steps.{step_shown}
use Rattle.ns_machine_turns.proofs.stepping.run_on.Goals as goal

pub perform-requires-clause-can : goal.perform-requires-clause-can
perform-requires-clause-can c =
    c.moves_keep_machines_ready.ensures.can c.args.code.now c.requires.runs.can.grants c.args.core.now c.args.at
    (step_shown c.args.core.now.places c.fetch-step.result) c.requires.runs.can.ready c.fetch-step.ensures.next
