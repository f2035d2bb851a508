-- Cells are put on others, one after another.
use Rattle.std.proofs.Common.{◌≡◌, List, [], ◌∷◌, refl, ap, sym, ◌∙◌, subst}
use Rattle.ns_base.specs.declared.limits.Limits.{Limits}
use Rattle.ns_code.specs.declared.program.CodeProgram.{CodeProgram}
use Rattle.ns_world.specs.Heap.{Heap}
use Rattle.ns_world.specs.World.{World, WorldView, SameRoom}
use Rattle.ns_frozen.specs.declared.cell.CellData.{CellData}
use Rattle.ns_frozen.specs.Thawing.{cell_thawed, cells_onto}
use Rattle.ns_machine_thaw.specs.Cells.{CellsFit, CellIsPut}
use Rattle.ns_machine_thaw.proofs.Fitting.{below_fit}

-- With those that are left on them, they are all.
pub record PutOnto (code : CodeProgram) (old new : WorldView) (all left : List CellData) : Type 0 where
  pub cells : cells_onto code new.world.cells left ≡ cells_onto code old.world.cells all
  pub world : new.world ≡ record old.world { cells = new.world.cells }
  pub room : SameRoom old new

pub onto_starts : (code : CodeProgram) (world : WorldView) (all : List CellData) → PutOnto code world world all all
onto_starts code world all = record { cells = refl; world = refl; room = (refl, refl) }

-- the next one can be put
pub next_fits : (code : CodeProgram) (old new : WorldView) (all left : List CellData) (one : CellData)
    → CellsFit code old.world.limits.cells (cells_onto code old.world.cells all) → PutOnto code old new all (one ∷ left)
    → CellsFit code new.world.limits.cells (cell_thawed code new.world.cells one ∷ new.world.cells)
next_fits code old new all left one fit put =
    let same : new.world.limits ≡ old.world.limits = ap (λ (w : World). w.limits) put.world in
    subst (λ (limits : Limits). CellsFit code limits.cells (cell_thawed code new.world.cells one ∷ new.world.cells)) (sym same)
    (below_fit code old.world.limits.cells (cell_thawed code new.world.cells one ∷ new.world.cells) left
    (subst (CellsFit code old.world.limits.cells) (sym put.cells) fit))

pub onto_goes_on : (code : CodeProgram) (old new after : WorldView) (all left : List CellData) (one : CellData) → PutOnto code old new all (one ∷ left)
    → CellIsPut (cell_thawed code new.world.cells one) new after → PutOnto code old after all left
onto_goes_on code old new after all left one put is = record {
  cells = ap (λ (w : World). cells_onto code w.cells left) is.world ∙ put.cells;
  world = is.world ∙ (ap (λ (w : World). record w { cells = cell_thawed code new.world.cells one ∷ new.world.cells }) put.world ∙ ap (λ (w : World). record old.world { cells = w.cells }) (sym is.world));
  room = (is.room.0 ∙ put.room.0, is.room.1 ∙ put.room.1);
}

pub onto_ends : (code : CodeProgram) (old new : WorldView) (all : List CellData) → PutOnto code old new all []
    → new.world ≡ record old.world { cells = cells_onto code old.world.cells all }
onto_ends code old new all put = put.world ∙ ap (λ (cells : Heap). record old.world { cells = cells }) put.cells
