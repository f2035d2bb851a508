use Rattle.std.proofs.Common.{ℕ, List, ◌+◌, get_or, ap, ◌∙◌, arith}
use Rattle.ns_world.specs.Heap.{superclass_of}
use Rattle.ns_world.specs.Layout.{layout_of}
use Rattle.ns_frozen_seen.specs.Seen.{heap_of}
use Rattle.ns_frozen_seen.proofs.Climbed.{climb_is}
use Rattle.ns_frozen_seen.proofs.Kept.{keeper_is, next_is, placed_within}
use Rattle.ns_frozen_seen.proofs.seen.Seen.keeper.Goals as goal

pub above-requires-clause-there : goal.above-requires-clause-there
above-requires-clause-there c = placed_within c.args.self.now.chains.numbers.items c.superclass-over.result c.over_at-at.result c.over_at-at.ensures.placed

pub climb_over-requires-clause-there : goal.climb_over-requires-clause-there
climb_over-requires-clause-there c = placed_within c.args.self.now.chains.numbers.items c.superclass-over.result c.over_at-at.result c.over_at-at.ensures.placed

pub returns : goal.returns
returns c =
    let here = c.number_at-holder.ensures.number ∙ ap (λ (ns : List ℕ). get_or ns c.args.place 0) c.as_slice.ensures.value in
    let over = c.superclass-over.ensures in
    keeper_is c.args.self.now.code.now (heap_of c.args.self.now) c.args.self.now.chains.numbers.items c.args.place
    (record {
      holder = c.number_at-holder.result;
      decl = c.declaration-decl.result;
      first = c.layout_over.result + c.slots.result;
      above = c.above.result;
      climb = c.climb_over.result;
    })
    here (omega (arith, c.number_at-holder.ensures.fits))
    c.declaration-decl.ensures
    (ap (λ (n : ℕ). n + c.slots.result) (c.layout_over.ensures.layout ∙ ap (layout_of (heap_of c.args.self.now) c.args.self.now.code.now) over)
    ∙ ap (λ (n : ℕ). layout_of (heap_of c.args.self.now) c.args.self.now.code.now (superclass_of (heap_of c.args.self.now) c.number_at-holder.result) + n)
    c.slots.ensures.slots)
    (omega (arith, c.layout_over.ensures.few, c.slots.ensures.few))
    (λ chain.
    next_is c.args.self.now.code.now (heap_of c.args.self.now) c.args.self.now.chains.numbers.items c.args.place c.number_at-holder.result
    c.superclass-over.result c.over_at-at.result c.above.result c.requires.seen.chains.rising c.requires.there here
    (omega (arith, c.number_at-holder.ensures.fits)) over chain (c.over_at-at.ensures.over chain) c.above.ensures)
    (λ chain.
    climb_is c.args.self.now.code.now (heap_of c.args.self.now) c.args.self.now.chains c.args.place c.number_at-holder.result
    c.superclass-over.result c.over_at-at.result c.climb_over.result c.requires.seen.chains c.requires.there here
    (omega (arith, c.number_at-holder.ensures.fits)) over chain (c.over_at-at.ensures.over chain) c.climb_over.ensures)
