use Rattle.std.proofs.Common.{◌∷◌, ◌++◌, ap, ◌∙◌, sym, arith, refl}
use Rattle.ns_world.proofs.Kept.{seen_laid_out, seen_size, shows, laid_out-more}
use Rattle.ns_world.proofs.Whole.{laid_out_with}
use Rattle.ns_world.specs.View.{HeapView}
use Rattle.ns_world.specs.Cell.{TextCell}
use Rattle.ns_world.proofs.heap.Heap.make_text.Goals as goal

pub lay_bytes-requires-clause-room : goal.lay_bytes-requires-clause-room
lay_bytes-requires-clause-room c =
    omega (arith, seen_size c.args.self.now c.self.inside.words.items _ _ _ _ c.self.view_is c.self.invariant, c.self.inside.words.ok.0, ap (λ (v : HeapView). v.room) c.self.view_is, c.self.invariant.room_kept, c.requires.room)

pub invariant_of-self : goal.invariant_of-self
invariant_of-self c =
    laid_out_with c.args.self.now c.self.inside.words.items c.lay_bytes.new.words.items _ _ _ _ _ (TextCell (c.args.first.now ++ c.args.second.now)) c.self.view_is c.self.invariant c.lay_bytes.ensures.items c.lay_bytes.ensures.capacity refl (λ kind. refl) (λ decl. refl) c.requires.small

pub returns-clause-number : goal.returns-clause-number
returns-clause-number c =
    omega (arith, seen_size c.args.self.now c.self.inside.words.items _ _ _ _ c.self.view_is c.self.invariant, c.self.inside.words.ok.0, c.len-number.ensures)

pub returns-clause-cells : goal.returns-clause-cells
returns-clause-cells c =
    let laid = seen_laid_out c.args.self.now c.self.inside.words.items _ _ _ _ c.self.view_is c.self.invariant in
    let after = laid_out-more c.args.self.now.cells (TextCell (c.args.first.now ++ c.args.second.now)) c.self.inside.words.items laid ∙ sym c.lay_bytes.ensures.items in
    shows c.args.self.now c.self.inside.words.items (TextCell (c.args.first.now ++ c.args.second.now) ∷ c.args.self.now.cells) c.lay_bytes.new.words.items c.self.inside.room c.self.view_is after
