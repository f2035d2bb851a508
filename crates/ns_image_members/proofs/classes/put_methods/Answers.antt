use Rattle.std.proofs.Common.{refl, arith}
use Rattle.std.proofs.lemmas.Grind.{common_steps}
use Rattle.ns_image_members.proofs.Puts.{after_after}
use Rattle.ns_image_members.proofs.classes.put_methods.Goals as goal

pub methods-init : goal.methods-init
methods-init c = refl

pub methods-preserved : goal.methods-preserved
methods-preserved c = grind (arith, common_steps, after_after)

pub returns : goal.returns
returns c = grind (arith, common_steps, after_after)
