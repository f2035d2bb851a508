use Rattle.std.proofs.Common.{◌∙◌, sym, subst}
use Rattle.ns_machine_plan.specs.Plan.{IsStepAt}
use Rattle.ns_machine_plan.proofs.plan.Plan.step.Goals as goal

pub returns : goal.returns
returns c =
    subst (IsStepAt c.args.code.now c.args.body c.args.next) (sym (c.step_in.ensures ∙ c.kept_at.ensures.step)) (c.steps_of.ensures.is c.args.next c.requires.there)
