use Rattle.std.proofs.Common.{◌∷◌, ap, ◌∙◌, sym, arith, refl}
use Rattle.ns_world.proofs.Kept.{seen_laid_out, seen_size, shows, laid_out-more}
use Rattle.ns_world.proofs.Whole.{laid_out_with, environment_size}
use Rattle.ns_world.specs.View.{HeapView}
use Rattle.ns_world.specs.Cell.{filled_environment}
use Rattle.ns_world.proofs.heap.Heap.make_environment.Goals as goal

pub lay_locals-requires-clause-room : goal.lay_locals-requires-clause-room
lay_locals-requires-clause-room c =
    omega (arith, seen_size c.args.self.now c.self.inside.words.items _ _ _ _ c.self.view_is c.self.invariant, c.self.inside.words.ok.0, ap (λ (v : HeapView). v.room) c.self.view_is, c.self.invariant.room_kept, c.requires.room, environment_size c.args.parent c.args.first.now c.args.others)

pub invariant_of-self : goal.invariant_of-self
invariant_of-self c =
    laid_out_with c.args.self.now c.self.inside.words.items c.lay_locals.new.words.items _ _ _ _ _ (filled_environment c.args.parent c.args.first.now c.args.others) c.self.view_is c.self.invariant c.lay_locals.ensures.items c.lay_locals.ensures.capacity refl (λ kind. refl) (λ decl. refl) c.requires.small

pub returns-clause-number : goal.returns-clause-number
returns-clause-number c =
    omega (arith, seen_size c.args.self.now c.self.inside.words.items _ _ _ _ c.self.view_is c.self.invariant, c.self.inside.words.ok.0, c.len-number.ensures)

pub returns-clause-cells : goal.returns-clause-cells
returns-clause-cells c =
    let laid = seen_laid_out c.args.self.now c.self.inside.words.items _ _ _ _ c.self.view_is c.self.invariant in
    let after = laid_out-more c.args.self.now.cells (filled_environment c.args.parent c.args.first.now c.args.others) c.self.inside.words.items laid ∙ sym c.lay_locals.ensures.items in
    shows c.args.self.now c.self.inside.words.items (filled_environment c.args.parent c.args.first.now c.args.others ∷ c.args.self.now.cells) c.lay_locals.new.words.items c.self.inside.room c.self.view_is after
