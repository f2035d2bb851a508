use Rattle.std.proofs.Common.{◌-◌, length}
use Rattle.ns_world.specs.Seek.{first_such, is_sought}
use Rattle.ns_world.proofs.Seeking.{Walks}
use Rattle.ns_world.proofs.heap.Heap.first.Given as goal

abbrev pub invariant-walk : goal.invariant-walk
invariant-walk l = Walks l.sought l.self-inside.words.items (first_such (is_sought l.sought) l.fn.self.cells) l.at

abbrev pub decreases-walk : goal.decreases-walk
decreases-walk l = length l.self-inside.words.items - l.at
