use Rattle.std.proofs.Common.{◌+◌, ap, ◌∙◌, sym, arith, length, length-set}
use Rattle.ns_world.proofs.Access.{writes_word}
use Rattle.ns_world.proofs.Kept.{seen_laid_out, seen_ordered, seen_firsts, seen_within, keeps, shows}
use Rattle.ns_world.specs.laws.Firsts.{sought_after_word}
use Rattle.ns_world.specs.View.{HeapView}
use Rattle.ns_world.specs.Words.{word_of}
use Rattle.ns_world.specs.Heap.{heap_size, write_word}
use Rattle.ns_world.proofs.heap.Heap.write.Goals as goal

pub set_value-requires : goal.set_value-requires
set_value-requires c =
    let laid = seen_laid_out c.args.self.now c.self.inside.words.items _ _ _ _ c.self.view_is c.self.invariant in
    let w = writes_word c.args.self.now.cells c.self.inside.words.items c.args.at c.args.word c.args.value laid c.requires in
    omega (arith, w.inside, c.self.inside.words.ok.0)

pub invariant_of-self : goal.invariant_of-self
invariant_of-self c =
    let laid = seen_laid_out c.args.self.now c.self.inside.words.items _ _ _ _ c.self.view_is c.self.invariant in
    let w = writes_word c.args.self.now.cells c.self.inside.words.items c.args.at c.args.word c.args.value laid c.requires in
    let ordered = w.stays.order_stays ∙ seen_ordered c.args.self.now c.self.inside.words.items _ _ _ _ c.self.view_is c.self.invariant in
    let after = w.after ∙ sym c.set_value.ensures.items in
    keeps (write_word c.args.self.now.cells c.args.at c.args.word c.args.value) _ _ _ _ after ordered (omega (arith, c.self.invariant.room_kept, c.set_value.ensures.capacity))
    (omega (arith, ap length c.set_value.ensures.items, length-set c.self.inside.words.items (c.args.at + 1 + c.args.word) (word_of c.args.value), c.self.invariant.small))
    (omega (arith, w.stays.size_stays, seen_within c.args.self.now c.self.inside.words.items _ _ _ _ c.self.view_is c.self.invariant))
    (λ sought number e. seen_firsts c.args.self.now c.self.inside.words.items _ _ _ _ c.self.view_is c.self.invariant sought number (sym (sought_after_word c.args.self.now.cells c.args.at c.args.word c.args.value sought) ∙ e))

pub returns-clause-cells : goal.returns-clause-cells
returns-clause-cells c =
    let laid = seen_laid_out c.args.self.now c.self.inside.words.items _ _ _ _ c.self.view_is c.self.invariant in
    let w = writes_word c.args.self.now.cells c.self.inside.words.items c.args.at c.args.word c.args.value laid c.requires in
    let after = w.after ∙ sym c.set_value.ensures.items in
    shows c.args.self.now c.self.inside.words.items (write_word c.args.self.now.cells c.args.at c.args.word c.args.value) _ c.self.inside.room c.self.view_is after

pub returns-clause-size : goal.returns-clause-size
returns-clause-size c =
    let laid = seen_laid_out c.args.self.now c.self.inside.words.items _ _ _ _ c.self.view_is c.self.invariant in
    let w = writes_word c.args.self.now.cells c.self.inside.words.items c.args.at c.args.word c.args.value laid c.requires in
    let after = w.after ∙ sym c.set_value.ensures.items in
    ap (λ (v : HeapView). heap_size v.cells) (shows c.args.self.now c.self.inside.words.items (write_word c.args.self.now.cells c.args.at c.args.word c.args.value) _ c.self.inside.room c.self.view_is after) ∙ w.stays.size_stays
