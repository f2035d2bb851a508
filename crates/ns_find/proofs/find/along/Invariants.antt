use Rattle.std.proofs.Common.{◌≡◌, length, IsTrue}
use Rattle.ns_world.specs.Heap.{chain_of, is_chain_start}
use Rattle.ns_find.specs.Members.{search, members_along}
use Rattle.ns_find.specs.Passed.{PassedHaveNone}
use Rattle.ns_find.proofs.find.along.Given as goal

abbrev pub invariant-up : goal.invariant-up
invariant-up l =
    (search l.code l.asked.sel.0 l.asked.kind (members_along l.world.world.cells l.code l.side (chain_of l.world.world.cells l.at))
    ≡ search l.code l.asked.sel.0 l.asked.kind (members_along l.world.world.cells l.code l.side (chain_of l.world.world.cells l.class)))
    × IsTrue (is_chain_start l.world.world.cells l.at)
    × PassedHaveNone l.world.world.cells l.code l.side l.asked.sel.0 l.asked.kind l.passed

abbrev pub decreases-up : goal.decreases-up
decreases-up l = length (chain_of l.world.world.cells l.at)
