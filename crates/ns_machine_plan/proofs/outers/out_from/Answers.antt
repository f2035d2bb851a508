use Rattle.std.proofs.Common.{refl, arith}
use Rattle.std.proofs.lemmas.Grind.{common_steps}
use Rattle.ns_machine_plan.proofs.outers.out_from.Goals as goal

pub levels-init : goal.levels-init
levels-init c = refl

pub levels-preserved : goal.levels-preserved
levels-preserved c = grind (arith, common_steps)

pub returns : goal.returns
returns c = grind (arith, common_steps)
