use Rattle.std.proofs.Common.{refl, arith}
use Rattle.std.proofs.lemmas.Grind.{common_steps}
use Rattle.ns_image_list.proofs.Puts.{after_after}
use Rattle.ns_image_list.proofs.list.put_classes.Goals as goal

pub classes-init : goal.classes-init
classes-init c = refl

pub classes-preserved : goal.classes-preserved
classes-preserved c = grind (arith, common_steps, after_after)

pub returns : goal.returns
returns c = grind (arith, common_steps, after_after)
