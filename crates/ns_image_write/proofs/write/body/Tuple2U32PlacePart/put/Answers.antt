use Rattle.std.proofs.Common.{arith}
use Rattle.std.proofs.lemmas.Grind.{common_steps}
use Rattle.ns_image_write.proofs.write.body.Tuple2U32PlacePart.put.Goals as goal

pub returns : goal.returns
returns c = grind (arith, common_steps)
