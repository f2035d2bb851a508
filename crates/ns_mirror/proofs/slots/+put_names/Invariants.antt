use Rattle.std.proofs.Common.{length}
use Rattle.ns_world.specs.Heap.{chain_of}
use Rattle.ns_mirror.proofs.slots.«+put_names».Given as goal

abbrev pub decreases-put_names : goal.decreases-put_names
decreases-put_names l = length (chain_of l.world.now.world.cells l.class)
