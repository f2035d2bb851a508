use Rattle.ns_machine_plan.proofs.Following.{running_has_step}
use Rattle.ns_machine_plan.proofs.laws.running_bodies_have_steps.Goals as goal

pub returns : goal.returns
returns c = running_has_step
