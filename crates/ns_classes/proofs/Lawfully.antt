-- A class that is made, and an entry that is filled, keep a lawful world lawful.
use Rattle.std.proofs.Common.{◌≡◌, ℕ, ◌∷◌, refl, ap, sym, ◌∙◌, subst, Option, Some, None, Result, Ok, Err, IfOk, true}
use Rattle.ns_code.specs.declared.program.CodeProgram.{CodeProgram}
use Rattle.ns_world.specs.declared.value.Value.{Value}
use Rattle.ns_world.specs.declared.cell.NewCell.TheVariants.{Class}
use Rattle.ns_world.specs.Cell.{Cell}
use Rattle.ns_world.specs.Heap.{find_cell, is_class}
use Rattle.ns_world.specs.Layout.{entries_above}
use Rattle.ns_world.specs.World.{WorldView}
use Rattle.ns_world.specs.Lawful.{IsLawful}
use Rattle.ns_world.specs.Keeping.{IsEnclosed}
use Rattle.ns_world.specs.laws.Changing.{found_new}
use Rattle.ns_world.specs.laws.Making.{making_keeps, made_cells}
use Rattle.ns_classes.specs.declared.apply.MakeFault.{MakeFault}
use Rattle.ns_classes.specs.Apply.{class_fault, class_cell, AppliesClass}
use Rattle.ns_classes.specs.laws.Lawfully.{fits}

-- What a class that is made leaves.
pub record Applied (code : CodeProgram) (old : WorldView) (result : Result ℕ MakeFault) (new : WorldView) : Type 0 where
  pub class : IfOk result (λ number. is_class (find_cell new.world.cells number) ≡ true)
  pub lawful : IsLawful new.world code

pub applied : (code : CodeProgram) (decl : ℕ) (encl holder over : Value) (old : WorldView) (result : Result ℕ MakeFault) (new : WorldView) →
    IsLawful old.world code → IsEnclosed old.world.cells code decl encl holder →
    AppliesClass (class_fault old.world.cells over) old (class_cell old.world.cells code decl encl holder over) result new →
    Applied code old result new
applied code decl encl holder over old result new lawful enclosed h = by_fault (class_fault old.world.cells over) refl result h
  where
    cell : Cell
    cell = class_cell old.world.cells code decl encl holder over

    by_fault : (o : Option MakeFault) → class_fault old.world.cells over ≡ o → (result : Result ℕ MakeFault) → AppliesClass o old cell result new → Applied code old result new
    by_fault (Some fault) e (Ok number) h = absurd h
    by_fault (Some fault) e (Err found) h = record { class = tt; lawful = subst (λ (v : WorldView). IsLawful v.world code) (sym h.1) lawful }
    by_fault None e (Ok number) h =
        let f = fits old.world.cells over e in
        let here : find_cell new.world.cells number ≡ Some cell =
        ap (λ cells. find_cell cells number) (made_cells old.world new.world cell h.0)
        ∙ (ap (find_cell (cell ∷ old.world.cells)) h.1 ∙ found_new old.world.cells cell) in
        record {
          class = ap is_class here;
          lawful = making_keeps old.world new.world code (Class decl (entries_above old.world.cells code over) encl holder over) lawful f.superclass (enclosed, refl, f.short) h.0;
        }
    by_fault None e (Err found) h = record { class = tt; lawful = subst (λ (v : WorldView). IsLawful v.world code) (sym h.2) lawful }
