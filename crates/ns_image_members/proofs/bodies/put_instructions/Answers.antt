use Rattle.std.proofs.Common.{refl, arith}
use Rattle.std.proofs.lemmas.Grind.{common_steps}
use Rattle.ns_image_members.proofs.Puts.{after_after}
use Rattle.ns_image_members.proofs.bodies.put_instructions.Goals as goal

pub instrs-init : goal.instrs-init
instrs-init c = refl

pub instrs-preserved : goal.instrs-preserved
instrs-preserved c = grind (arith, common_steps, after_after)

pub returns : goal.returns
returns c = grind (arith, common_steps, after_after)
