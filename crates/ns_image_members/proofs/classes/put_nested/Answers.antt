use Rattle.std.proofs.Common.{refl, arith}
use Rattle.std.proofs.lemmas.Grind.{common_steps}
use Rattle.ns_image_members.proofs.Puts.{after_after}
use Rattle.ns_image_members.proofs.classes.put_nested.Goals as goal

pub nested-init : goal.nested-init
nested-init c = refl

pub nested-preserved : goal.nested-preserved
nested-preserved c = grind (arith, common_steps, after_after)

pub returns : goal.returns
returns c = grind (arith, common_steps, after_after)
