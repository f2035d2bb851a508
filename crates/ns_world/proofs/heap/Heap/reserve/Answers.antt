use Rattle.std.proofs.Common.{arith}
use Rattle.ns_world.proofs.Kept.{same_words}
use Rattle.ns_world.proofs.heap.Heap.reserve.Goals as goal

pub invariant_of-self-2 : goal.invariant_of-self-2
invariant_of-self-2 c =
    same_words c.self.inside.words.items _ _ _ _ _ _ c.in_ok-reserve_exact.ensures.items (grind arith) c.self.invariant
