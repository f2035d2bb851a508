use Rattle.std.proofs.Common.{◌≡◌, ◌+◌, drop, flat_map, length}
use Rattle.ns_snapshot.specs.Bytes as spec
use Rattle.ns_snapshot_write.proofs.cell.measure_each.Given as goal

abbrev pub invariant-cells : goal.invariant-cells
invariant-cells l = l.fn.room.left + length (flat_map spec.cell (drop l.place l.cells)) ≡ l.room.left + length (flat_map spec.cell l.cells)
