use Rattle.std.proofs.Common.{arith}
use Rattle.std.proofs.lemmas.Grind.{common_steps}
use Rattle.ns_image_members.proofs.named.put_methods.Goals as goal

pub methods-preserved : goal.methods-preserved
methods-preserved c = grind (arith, common_steps)

pub returns : goal.returns
returns c = grind (arith, common_steps)
