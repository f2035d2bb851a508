use Rattle.ns_machine_turns.proofs.Fetched.{body_has_step}
use Rattle.ns_machine_turns.proofs.fetching.fetch_kept.Goals as goal

pub steps_of-steps-requires-clause-there : goal.steps_of-steps-requires-clause-there
steps_of-steps-requires-clause-there c =
    (body_has_step c.args.code.now c.requires.can.grants c.args.core.now c.args.at c.args.body c.requires.can.ready.valid c.requires.runs
    (c.running_bodies_have_steps.ensures c.args.code.now)).body_there
