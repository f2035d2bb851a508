use Rattle.ns_world.specs.laws.Above.{chain_first, chain_none}
use Rattle.ns_world.proofs.Kept.{seen_ordered, seen_small}
use Rattle.ns_world.proofs.heap.Heap.is_past.Goals as goal

pub returns-clause-past : goal.returns-clause-past
returns-clause-past c = λ e.
    let small = seen_small c.args.self.now c.self.inside.words.items _ _ _ _ c.self.view_is c.self.invariant in
    chain_none c.args.self.now.cells c.args.class small e

pub returns-clause-first : goal.returns-clause-first
returns-clause-first c = λ e.
    let ordered = seen_ordered c.args.self.now c.self.inside.words.items _ _ _ _ c.self.view_is c.self.invariant in
    let small = seen_small c.args.self.now c.self.inside.words.items _ _ _ _ c.self.view_is c.self.invariant in
    chain_first c.args.self.now.cells c.args.class ordered small c.requires e
