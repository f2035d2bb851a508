use Rattle.std.proofs.Common.{◌∙◌, ap}
use Rattle.ns_machine_plan.specs.Outers.{out_from}
use Rattle.ns_machine_plan.proofs.Outward.{far_more}
use Rattle.ns_machine_plan.proofs.outers.Outers.far_steps.Goals as goal

pub steps-preserved : goal.steps-preserved
steps-preserved c =
    c.far_step-found.ensures
    ∙ (ap (λ from. out_from c.args.code.now from 16) c.steps.invariant
    ∙ far_more c.args.code.now c.args.decl c.steps._passed)
