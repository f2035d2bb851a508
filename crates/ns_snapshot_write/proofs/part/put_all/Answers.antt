use Rattle.std.proofs.Common.{refl, arith}
use Rattle.std.proofs.lemmas.Grind.{common_steps}
use Rattle.ns_snapshot_write.proofs.part.put_all.Goals as goal

pub parts-init : goal.parts-init
parts-init g c = refl

pub parts-preserved : goal.parts-preserved
parts-preserved g c = grind (arith, common_steps)

pub returns : goal.returns
returns g c = grind (arith, common_steps)
