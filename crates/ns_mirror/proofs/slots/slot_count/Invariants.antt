use Rattle.std.proofs.Common.{◌≡◌, ◌+◌, length, IsTrue}
use Rattle.ns_world.specs.Heap.{chain_of, is_chain_start}
use Rattle.ns_mirror.specs.Slots.{slot_names_along}
use Rattle.ns_mirror.proofs.slots.slot_count.Given as goal

abbrev pub invariant-up : goal.invariant-up
invariant-up l =
    (l.count + length (slot_names_along l.world.world.cells l.code (chain_of l.world.world.cells l.at)) ≡ length (slot_names_along l.world.world.cells l.code (chain_of l.world.world.cells l.class)))
    × IsTrue (is_chain_start l.world.world.cells l.at)

abbrev pub decreases-up : goal.decreases-up
decreases-up l = length (chain_of l.world.world.cells l.at)
