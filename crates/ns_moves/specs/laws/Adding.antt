-- What is added to the cells by what changes them.
use Rattle.std.proofs.Common.{◌≡◌, ℕ, ◌+◌, List, [], ◌∷◌, ◌++◌, length, map, refl, ap, sym, ◌∙◌, subst, append_assoc, Option, Some, None, Bool, true, false, cond, eqb}
use Rattle.std.specs.Prelude.{nat_le, ◌&&◌}
use Rattle.std.specs.List.{list_all}
use Rattle.std.specs.Option.{option_map_or}
use Rattle.std.proofs.lemmas.List.Folds.{list_all-append}
use Rattle.ns_world.specs.declared.value.Value.{Value}
use Rattle.ns_world.specs.declared.value.Value.TheVariants.{Nil, True, False, Int, Sym, Kernel, Ref}
use Rattle.ns_world.specs.declared.cell.NewCell.{NewCell}
use Rattle.ns_world.specs.Cell.{Cell, shape_of, with_word}
use Rattle.ns_world.specs.Heap.{Heap, heap_size, find_cell, set_cell, write_word}
use Rattle.ns_world.specs.World.{World, made, printed, stored}
use Rattle.ns_world.specs.laws.Twins.{word_shape}
use Rattle.ns_moves.specs.Adding.{Adds}
use Rattle.ns_world.specs.laws.Making.{made_cells}

-- ---- no cell, and one after another

pub adds_none : (may : NewCell → Bool) (heap : Heap) → Adds may heap heap
adds_none may heap = record { added = []; shapes = refl; each = refl }

-- the same kinds, sizes and fixed parts
adds_same : (may : NewCell → Bool) (old new : Heap) → map shape_of new ≡ map shape_of old → Adds may old new
adds_same may old new e = record { added = []; shapes = e; each = refl }

pub adds_on : (may : NewCell → Bool) (first second third : Heap) → Adds may first second → Adds may second third → Adds may first third
adds_on may first second third one two = record {
  added = two.added ++ one.added;
  shapes = two.shapes ∙ (ap (λ shapes. two.added ++ shapes) one.shapes ∙ sym (append_assoc two.added one.added (map shape_of first)));
  each = list_all-append may two.added one.added ∙ both (list_all may two.added) (list_all may one.added) two.each one.each;
}
  where
    both : (b c : Bool) → b ≡ true → c ≡ true → (b && c) ≡ true
    both true c e f = f
    both false c e f = absurd (cc)

-- ---- one cell more, and a word of a cell

adds_one : (may : NewCell → Bool) (heap : Heap) (cell : Cell) → may (shape_of cell) ≡ true → Adds may heap (cell ∷ heap)
adds_one may heap cell m = record { added = shape_of cell ∷ []; shapes = refl; each = rw m refl }

pub made_adds : (may : NewCell → Bool) (world after : World) (cell : Cell) → may (shape_of cell) ≡ true → made world cell ≡ Some after →
    Adds may world.cells after.cells
made_adds may world after cell m e =
    subst (λ cells. Adds may world.cells cells) (sym (made_cells world after cell e)) (adds_one may world.cells cell m)

set_shapes : (heap : Heap) (number : ℕ) (cell new : Cell) → find_cell heap number ≡ Some cell → shape_of new ≡ shape_of cell →
    map shape_of (set_cell heap number new) ≡ map shape_of heap
set_shapes [] number cell new e s = refl
set_shapes (newest ∷ earlier) number cell new e s = tested (eqb number (heap_size earlier)) e (set_shapes earlier number cell new)
  where
    tested : (b : Bool) → cond b (Some newest) (find_cell earlier number) ≡ Some cell
        → (find_cell earlier number ≡ Some cell → shape_of new ≡ shape_of cell → map shape_of (set_cell earlier number new) ≡ map shape_of earlier)
        → map shape_of (cond b (new ∷ earlier) (newest ∷ set_cell earlier number new)) ≡ map shape_of (newest ∷ earlier)
    tested true e below = let is : cell ≡ newest = cc in ap (λ shape. shape ∷ map shape_of earlier) (s ∙ ap shape_of is)
    tested false e below = ap (λ shapes. shape_of newest ∷ shapes) (below e s)

written_shapes : (heap : Heap) (at word : ℕ) (value : Value) → map shape_of (write_word heap at word value) ≡ map shape_of heap
written_shapes heap at word value = found (find_cell heap at) refl
  where
    found : (o : Option Cell) → find_cell heap at ≡ o → map shape_of (option_map_or (λ cell. set_cell heap at (with_word cell word value)) o heap) ≡ map shape_of heap
    found (Some cell) e = set_shapes heap at cell (with_word cell word value) e (word_shape word value cell)
    found None e = refl

pub stored_adds : (may : NewCell → Bool) (world : World) (object : Value) (word : ℕ) (value : Value) →
    Adds may world.cells (stored world object word value).cells
stored_adds may world (Ref at) word value =
    adds_same may world.cells (write_word world.cells at word value) (written_shapes world.cells at word value)
stored_adds may world Nil word value = adds_none may world.cells
stored_adds may world True word value = adds_none may world.cells
stored_adds may world False word value = adds_none may world.cells
stored_adds may world (Int number) word value = adds_none may world.cells
stored_adds may world (Sym sel) word value = adds_none may world.cells
stored_adds may world (Kernel class) word value = adds_none may world.cells

-- ---- charges, which change no cell

-- A world with the same cells adds none.
pub cells_same : (may : NewCell → Bool) (old new : World) → new.cells ≡ old.cells → Adds may old.cells new.cells
cells_same may old new e = adds_same may old.cells new.cells (ap (λ cells. map shape_of cells) e)

pub printed_cells : (world after : World) (bytes : List ℕ) → printed world bytes ≡ Some after → after.cells ≡ world.cells
printed_cells world after bytes e = tested (nat_le (length world.output + length bytes) world.limits.out) e
  where
    more : World
    more = record world { output = world.output ++ bytes }

    tested : (b : Bool) → cond b (Some more) None ≡ Some after → after.cells ≡ world.cells
    tested true e = let is : more ≡ after = cc in ap (λ (w : World). w.cells) (sym is)
    tested false e = absurd (cc)
