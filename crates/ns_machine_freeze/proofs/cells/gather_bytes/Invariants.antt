use Rattle.std.proofs.Common.{◌≡◌, take}
use Rattle.ns_world.specs.Heap.{bytes_at}
use Rattle.ns_machine_freeze.proofs.cells.gather_bytes.Given as goal

abbrev pub invariant-reading : goal.invariant-reading
invariant-reading l = l.text.items ≡ take l.place (bytes_at l.world.world.cells l.at)
