use Rattle.std.proofs.Common.{◌≡◌, ◌-◌, slice_get, IsTrue}
use Rattle.ns_world.specs.Heap.{chain_of, is_chain_start}
use Rattle.ns_world.proofs.heap.Heap.chain.Given as goal

abbrev pub invariant-up : goal.invariant-up
invariant-up l =
    (slice_get (chain_of l.self.cells l.class) l.k ≡ slice_get (chain_of l.self.cells l.at) (l.k - l.counter))
    × IsTrue (is_chain_start l.self.cells l.at)
