use Rattle.std.proofs.Common.{◌≡◌, ◌++◌, drop, flat_map}
use Rattle.ns_snapshot.specs.Bytes as spec
use Rattle.ns_snapshot_write.proofs.cell.put_each.Given as goal

abbrev pub invariant-cells : goal.invariant-cells
invariant-cells l = l.out.items ++ flat_map spec.cell (drop l.place l.cells) ≡ l.fn.out.items ++ flat_map spec.cell l.cells
