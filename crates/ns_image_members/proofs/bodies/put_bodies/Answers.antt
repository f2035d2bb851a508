use Rattle.std.proofs.Common.{refl, arith}
use Rattle.std.proofs.lemmas.Grind.{common_steps}
use Rattle.ns_image_members.proofs.Puts.{after_after}
use Rattle.ns_image_members.proofs.bodies.put_bodies.Goals as goal

pub bodies-init : goal.bodies-init
bodies-init c = refl

pub bodies-preserved : goal.bodies-preserved
bodies-preserved c = grind (arith, common_steps, after_after)

pub returns : goal.returns
returns c = grind (arith, common_steps, after_after)
