use Rattle.std.proofs.Common.{sym, subst}
use Rattle.ns_machine_plan.specs.Packed.{step_in}
use Rattle.ns_machine_plan.specs.Plan.{IsStepAt}
use Rattle.ns_machine_turns.proofs.Fetched.{body_has_step, body_has_next, is_ahead}
use Rattle.ns_machine_turns.proofs.fetching.fetch_from.Goals as goal

pub kept_at-requires-clause-within : goal.kept_at-requires-clause-within
kept_at-requires-clause-within c =
    c.requires.steps.within c.args.at.next
    (body_has_step c.args.code.now c.requires.can.grants c.args.core.now c.args.at c.args.body c.requires.can.ready.valid c.requires.runs
    (c.running_bodies_have_steps.ensures c.args.code.now))

pub returns-clause-ahead : goal.returns-clause-ahead
returns-clause-ahead c =
    let there =
    body_has_step c.args.code.now c.requires.can.grants c.args.core.now c.args.at c.args.body c.requires.can.ready.valid c.requires.runs
    (c.running_bodies_have_steps.ensures c.args.code.now) in
    is_ahead c.args.code.now c.args.plan.now c.args.core.now c.args.at c.args.body (step_in c.kept_at.result) c.requires.prepared
    (body_has_next c.args.code.now c.requires.can.grants c.args.core.now c.args.at c.args.body c.requires.can.ready.valid c.requires.runs
    (c.valid_runs_have_a_next_step.ensures c.args.code.now c.requires.can.grants))
    there
    (subst (IsStepAt c.args.code.now c.args.body c.args.at.next) (sym c.kept_at.ensures.step) (c.requires.steps.is c.args.at.next there))
