use Rattle.std.proofs.Common.{◌+◌, ◌∷◌, cond, ap, ◌∙◌, sym, arith, length, length-append}
use Rattle.ns_world.proofs.LaidOut.{length-words}
use Rattle.ns_world.proofs.Bounding.{firsts_with, bound_within}
use Rattle.ns_world.specs.laws.Ordered.{ordered_more}
use Rattle.ns_world.proofs.Kept.{seen_laid_out, seen_ordered, seen_size, seen_firsts, seen_within, keeps, shows, laid_out-more}
use Rattle.ns_world.specs.View.{HeapView}
use Rattle.ns_world.specs.Heap.{heap_size}
use Rattle.ns_world.specs.Cell.{fresh}
use Rattle.ns_world.specs.Words.{words_of}
use Rattle.ns_world.proofs.heap.Heap.make.Goals as goal

pub lay-requires : goal.lay-requires
lay-requires c =
    omega (arith, seen_size c.args.self.now c.self.inside.words.items _ _ _ _ c.self.view_is c.self.invariant, c.self.inside.words.ok.0, ap (λ (v : HeapView). v.room) c.self.view_is, c.self.invariant.room_kept, c.requires.room)

pub invariant_of-self : goal.invariant_of-self
invariant_of-self c =
    let laid = seen_laid_out c.args.self.now c.self.inside.words.items _ _ _ _ c.self.view_is c.self.invariant in
    let after = laid_out-more c.args.self.now.cells (fresh c.args.cell) c.self.inside.words.items laid ∙ sym c.lay.ensures.items in
    let ordered = ordered_more c.args.self.now.cells (fresh c.args.cell) c.requires.superclass (seen_ordered c.args.self.now c.self.inside.words.items _ _ _ _ c.self.view_is c.self.invariant) in
    let size = seen_size c.args.self.now c.self.inside.words.items _ _ _ _ c.self.view_is c.self.invariant in
    let bound = c.bound_with-self-inside.ensures ∙ (ap (λ n. cond c.may_be_first-first.result (n + 1) c.self.inside.firsts_end) (omega (arith, size, c.self.inside.words.ok.0, c.len.ensures)) ∙ ap (λ b. cond b (heap_size c.args.self.now.cells + 1) c.self.inside.firsts_end) c.may_be_first-first.ensures) in
    keeps (fresh c.args.cell ∷ c.args.self.now.cells) c.lay.new.words.items _ _ _ after ordered
    (omega (arith, c.self.invariant.room_kept, c.lay.ensures.capacity))
    (omega (arith, ap length c.lay.ensures.items, length-append c.self.inside.words.items (words_of (fresh c.args.cell)), length-words (fresh c.args.cell), size, c.requires.small))
    (bound_within c.args.self.now.cells c.args.cell c.self.inside.firsts_end c.bound_with-self-inside.result (seen_within c.args.self.now c.self.inside.words.items _ _ _ _ c.self.view_is c.self.invariant) bound)
    (firsts_with c.args.self.now.cells c.args.cell c.self.inside.firsts_end c.bound_with-self-inside.result (seen_firsts c.args.self.now c.self.inside.words.items _ _ _ _ c.self.view_is c.self.invariant) bound)

pub returns-clause-number : goal.returns-clause-number
returns-clause-number c =
    omega (arith, seen_size c.args.self.now c.self.inside.words.items _ _ _ _ c.self.view_is c.self.invariant, c.self.inside.words.ok.0, c.len-number.ensures)

pub returns-clause-cells : goal.returns-clause-cells
returns-clause-cells c =
    let laid = seen_laid_out c.args.self.now c.self.inside.words.items _ _ _ _ c.self.view_is c.self.invariant in
    let after = laid_out-more c.args.self.now.cells (fresh c.args.cell) c.self.inside.words.items laid ∙ sym c.lay.ensures.items in
    shows c.args.self.now c.self.inside.words.items (fresh c.args.cell ∷ c.args.self.now.cells) c.lay.new.words.items c.self.inside.room c.self.view_is after
