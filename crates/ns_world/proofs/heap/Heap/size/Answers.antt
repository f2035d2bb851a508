use Rattle.std.proofs.Common.{arith}
use Rattle.ns_world.proofs.Kept.{seen_size}
use Rattle.ns_world.proofs.heap.Heap.size.Goals as goal

pub returns-clause-size : goal.returns-clause-size
returns-clause-size c =
    omega (arith, seen_size c.args.self.now c.self.inside.words.items _ _ _ _ c.self.view_is c.self.invariant, c.self.inside.words.ok.0)
