use Rattle.std.proofs.Common.{◌+◌, ◌/◌, ap, ◌∙◌, sym, arith, length-set, set}
use Rattle.ns_world.proofs.Bytes.{reads_byte}
use Rattle.ns_world.proofs.Kept.{seen_laid_out, seen_ordered, seen_firsts, seen_within, keeps, shows}
use Rattle.ns_world.specs.laws.Firsts.{sought_after_byte}
use Rattle.ns_world.specs.View.{HeapView}
use Rattle.ns_world.specs.Heap.{heap_size, write_byte}
use Rattle.ns_world.proofs.heap.Heap.set_byte.Goals as goal

pub index-requires : goal.index-requires
index-requires c =
    let laid = seen_laid_out c.args.self.now c.self.inside.words.items _ _ _ _ c.self.view_is c.self.invariant in
    let r = reads_byte c.args.self.now.cells c.self.inside.words.items c.args.at c.args.place laid c.requires in
    omega (arith, r.inside, c.self.inside.words.ok.0)

pub index_mut-requires : goal.index_mut-requires
index_mut-requires c =
    let laid = seen_laid_out c.args.self.now c.self.inside.words.items _ _ _ _ c.self.view_is c.self.invariant in
    let r = reads_byte c.args.self.now.cells c.self.inside.words.items c.args.at c.args.place laid c.requires in
    omega (arith, r.inside, c.self.inside.words.ok.0)

pub invariant_of-self : goal.invariant_of-self
invariant_of-self c =
    let laid = seen_laid_out c.args.self.now c.self.inside.words.items _ _ _ _ c.self.view_is c.self.invariant in
    let r = reads_byte c.args.self.now.cells c.self.inside.words.items c.args.at c.args.place laid c.requires in
    let ordered = (r.stays c.args.byte).order_stays ∙ seen_ordered c.args.self.now c.self.inside.words.items _ _ _ _ c.self.view_is c.self.invariant in
    let row = c.with_byte.ensures r.row (c.index.ensures ∙ r.word c.index.result.now) in
    let after = r.after c.args.byte ∙ ap (set c.self.inside.words.items (c.args.at + 1 + c.args.place / 8)) (sym row) in
    keeps (write_byte c.args.self.now.cells c.args.at c.args.place c.args.byte) _ _ _ _ after ordered c.self.invariant.room_kept
    (omega (arith, length-set c.self.inside.words.items (c.args.at + 1 + c.args.place / 8) c.with_byte.result, c.self.invariant.small))
    (omega (arith, (r.stays c.args.byte).size_stays, seen_within c.args.self.now c.self.inside.words.items _ _ _ _ c.self.view_is c.self.invariant))
    (λ sought number e. seen_firsts c.args.self.now c.self.inside.words.items _ _ _ _ c.self.view_is c.self.invariant sought number (sym (sought_after_byte c.args.self.now.cells c.args.at c.args.place c.args.byte sought) ∙ e))

pub returns-clause-cells : goal.returns-clause-cells
returns-clause-cells c =
    let laid = seen_laid_out c.args.self.now c.self.inside.words.items _ _ _ _ c.self.view_is c.self.invariant in
    let r = reads_byte c.args.self.now.cells c.self.inside.words.items c.args.at c.args.place laid c.requires in
    let row = c.with_byte.ensures r.row (c.index.ensures ∙ r.word c.index.result.now) in
    let after = r.after c.args.byte ∙ ap (set c.self.inside.words.items (c.args.at + 1 + c.args.place / 8)) (sym row) in
    shows c.args.self.now c.self.inside.words.items (write_byte c.args.self.now.cells c.args.at c.args.place c.args.byte) _ c.self.inside.room c.self.view_is after

pub returns-clause-size : goal.returns-clause-size
returns-clause-size c =
    let laid = seen_laid_out c.args.self.now c.self.inside.words.items _ _ _ _ c.self.view_is c.self.invariant in
    let r = reads_byte c.args.self.now.cells c.self.inside.words.items c.args.at c.args.place laid c.requires in
    let row = c.with_byte.ensures r.row (c.index.ensures ∙ r.word c.index.result.now) in
    let after = r.after c.args.byte ∙ ap (set c.self.inside.words.items (c.args.at + 1 + c.args.place / 8)) (sym row) in
    ap (λ (v : HeapView). heap_size v.cells) (shows c.args.self.now c.self.inside.words.items (write_byte c.args.self.now.cells c.args.at c.args.place c.args.byte) _ c.self.inside.room c.self.view_is after) ∙ (r.stays c.args.byte).size_stays
