use Rattle.std.proofs.Common.{refl, arith}
use Rattle.std.proofs.lemmas.Grind.{common_steps}
use Rattle.ns_image_list.proofs.Puts.{after_after}
use Rattle.ns_image_list.proofs.list.put_locals.Goals as goal

pub names-init : goal.names-init
names-init c = refl

pub names-preserved : goal.names-preserved
names-preserved c = grind (arith, common_steps, after_after)

pub returns : goal.returns
returns c = grind (arith, common_steps, after_after)
