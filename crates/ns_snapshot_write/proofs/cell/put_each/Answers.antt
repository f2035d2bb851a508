use Rattle.std.proofs.Common.{refl, arith}
use Rattle.std.proofs.lemmas.Grind.{common_steps}
use Rattle.ns_snapshot_write.proofs.cell.put_each.Goals as goal

pub cells-init : goal.cells-init
cells-init c = refl

pub cells-preserved : goal.cells-preserved
cells-preserved c = grind (arith, common_steps)

pub returns : goal.returns
returns c = grind (arith, common_steps)
