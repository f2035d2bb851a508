use Rattle.std.proofs.Common.{◌≡◌, ◌-◌, []}
use Rattle.ns_world.specs.Heap.{heap_size}
use Rattle.ns_machine_freeze.proofs.Walked.{Walked}
use Rattle.ns_machine_freeze.proofs.cells.cells.Given as goal

abbrev pub invariant-walk : goal.invariant-walk
invariant-walk l = Walked l.world.world.cells l.made.cells l.at × (l.made.words ≡ [])

abbrev pub decreases-walk : goal.decreases-walk
decreases-walk l = heap_size l.world.world.cells - l.at
