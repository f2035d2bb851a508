-- Ways out lead where they led in a world whose cells keep their shapes.
use Rattle.std.proofs.Common.{◌≡◌, ◌≢◌, ℕ, zero, suc, ◌∷◌, refl, ap, sym, ◌∙◌, subst, arith, Option, Some, None, is_some, IsSome, Bool, true, false, eqb}
use Rattle.std.specs.Option.{option_map_or}
use Rattle.std.proofs.lemmas.Bool.{eqb-true, eq-eqb}
use Rattle.ns_world.specs.declared.value.Value.TheVariants.{Nil}
use Rattle.ns_world.specs.declared.cell.NewCell.{NewCell}
use Rattle.ns_world.specs.declared.cell.NewCell.TheVariants.{Mirror}
use Rattle.ns_world.specs.Cell.{Cell, shape_of}
use Rattle.ns_world.specs.Heap.{Heap, find_cell, shape_at, change_cell}
use Rattle.ns_world.specs.Later.{AreLater}
use Rattle.ns_world.specs.laws.Chains.{found_below, found_in_more}
use Rattle.ns_world.specs.laws.Changing.{ChangesPlainly, changing_leaves}
use Rattle.ns_world.specs.laws.Twins.{found_changed}
use Rattle.ns_find.specs.Outward.{around, outward, IsWay}

-- A cell is there with the shape of another.
pub record HasShapeOf (heap : Heap) (at : ℕ) (cell : Cell) : Type 0 where
  pub now : Cell
  pub there : find_cell heap at ≡ Some now
  pub shape : shape_of now ≡ shape_of cell

-- Each cell is there with the shape that it had.
abbrev pub KeepsShapes : Heap → Heap → Type 0
KeepsShapes before after = (at : ℕ) (cell : Cell) → find_cell before at ≡ Some cell → HasShapeOf after at cell

-- ---- where cells keep their shapes

there_stays : (before after : Heap) (at : ℕ) → KeepsShapes before after → IsSome (find_cell before at) → IsSome (find_cell after at)
there_stays before after at keeps is = found (find_cell before at) refl is
  where
    found : (o : Option Cell) → find_cell before at ≡ o → IsSome o → IsSome (find_cell after at)
    found None e is = absurd (cc)
    found (Some cell) e is = ap is_some (keeps at cell e).there

shape_stays : (before after : Heap) (at : ℕ) → KeepsShapes before after → IsSome (find_cell before at) →
    shape_at after at ≡ shape_at before at
shape_stays before after at keeps is = found (find_cell before at) refl is
  where
    told : Option Cell → NewCell
    told o = option_map_or shape_of o (Mirror Nil)

    found : (o : Option Cell) → find_cell before at ≡ o → IsSome o → shape_at after at ≡ shape_at before at
    found None e is = absurd (cc)
    found (Some cell) e is = let s = keeps at cell e in ap told s.there ∙ (s.shape ∙ ap told (sym e))

-- the end of a way
pub end_stays : (before after : Heap) (from levels : ℕ) → KeepsShapes before after → IsWay before from levels →
    outward after from levels ≡ outward before from levels
end_stays before after from zero keeps way = refl
end_stays before after from (suc levels) keeps way =
    ap (λ at. around (shape_at after at)) (end_stays before after from levels keeps (λ k lt. way k (omega (arith, lt))))
    ∙ ap around (shape_stays before after (outward before from levels) keeps (way levels (omega arith)))

-- the cells on it
pub way_stays : (before after : Heap) (from levels : ℕ) → KeepsShapes before after → IsWay before from levels → IsWay after from levels
way_stays before after from levels keeps way = λ k lt.
    subst (λ at. IsSome (find_cell after at)) (sym (end_stays before after from k keeps (λ j less. way j (omega (arith, lt, less)))))
    (there_stays before after (outward before from k) keeps (way k lt))

-- ---- what keeps shapes

-- one cell more
pub shapes_with_more : (heap : Heap) (cell : Cell) → KeepsShapes heap (cell ∷ heap)
shapes_with_more heap cell = λ at old e.
    record { now = old; there = found_in_more cell heap at (found_below heap at old e) ∙ e; shape = refl }

-- a cell that is changed and keeps its shape
pub shapes_with_change : (heap : Heap) (at : ℕ) (change : Cell → Cell) → ChangesPlainly change → ((cell : Cell) → shape_of (change cell) ≡ shape_of cell) →
    KeepsShapes heap (change_cell heap at change)
shapes_with_change heap at change plainly shapes = λ number cell e. tested number cell e (eqb number at) refl
  where
    tested : (number : ℕ) (cell : Cell) → find_cell heap number ≡ Some cell → (b : Bool) → eqb number at ≡ b → HasShapeOf (change_cell heap at change) number cell
    tested number cell e true t =
        let here : number ≡ at = eqb-true number at t in
        record {
          now = change cell;
          there = ap (find_cell (change_cell heap at change)) here ∙ found_changed heap at change cell plainly (ap (find_cell heap) (sym here) ∙ e);
          shape = shapes cell;
        }
    tested number cell e false t =
        let other : number ≢ at = λ q. let s : eqb number at ≡ true = eq-eqb number at q in cc in
        record { now = cell; there = (changing_leaves heap at change plainly).others number other ∙ e; shape = refl }

-- all that was made and written since
pub shapes_later : (old new : Heap) → AreLater old new → KeepsShapes old new
shapes_later old new later = λ at cell e. let s = later.cells at cell e in record { now = s.now; there = s.there; shape = s.shape }
