use Rattle.ns_machine_thaw.proofs.Onto.{PutOnto}
use Rattle.ns_machine_thaw.proofs.cells.put_cells.Given as goal
use Rattle.std.proofs.Common.{drop}

abbrev pub invariant-cells : goal.invariant-cells
invariant-cells l = PutOnto l.code l.fn.world l.world l.fn.cells (drop l.place l.cells)
