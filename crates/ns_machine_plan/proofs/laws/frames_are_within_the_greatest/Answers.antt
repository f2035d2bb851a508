use Rattle.ns_machine_plan.proofs.Rows.{within_greatest}
use Rattle.ns_machine_plan.proofs.laws.frames_are_within_the_greatest.Goals as goal

pub returns : goal.returns
returns c = λ code body. within_greatest code.bodies body
