-- Where a cell stands in the heap.
use Rattle.std.proofs.Common.{◌≡◌, ℕ, ◌+◌, ◌≤◌, [], ◌∷◌, ◌++◌, refl, ap, sym, arith, Some, Bool, true, false, cond, eqb}
use Rattle.std.proofs.lemmas.Bool.{eqb-true}
use Rattle.ns_world.specs.Cell.{Cell, cell_size}
use Rattle.ns_world.specs.Heap.{Heap, heap_size, find_cell, set_cell}

-- The cell of that number stands between those made later and those made earlier.
pub record CellStands (heap : Heap) (number : ℕ) (cell : Cell) : Type 0 where
  pub later : Heap
  pub earlier : Heap
  pub is : heap ≡ later ++ cell ∷ earlier
  pub number_is : heap_size earlier ≡ number
  pub replaced : (new : Cell) → set_cell heap number new ≡ later ++ new ∷ earlier

pub stands : (heap : Heap) (number : ℕ) (cell : Cell) → find_cell heap number ≡ Some cell → CellStands heap number cell
stands [] number cell e = absurd (cc)
stands (first ∷ earlier) number cell e = by_test (eqb number (heap_size earlier)) refl e (stands earlier number cell)
  where
    by_test : (b : Bool) → eqb number (heap_size earlier) ≡ b → cond b (Some first) (find_cell earlier number) ≡ Some cell → (find_cell earlier number ≡ Some cell → CellStands earlier number cell) → CellStands (first ∷ earlier) number cell
    by_test true t e below = record { later = []; earlier = earlier; is = ap (λ c. c ∷ earlier) (cc); number_is = sym (eqb-true number (heap_size earlier) t); replaced = λ new. rw t refl }
    by_test false t e below = let s = below e in record { later = first ∷ s.later; earlier = s.earlier; is = ap (λ h. first ∷ h) s.is; number_is = s.number_is; replaced = λ new. rw t (ap (λ h. first ∷ h) (s.replaced new)) }

heap_size-append : (later earlier : Heap) → heap_size earlier ≤ heap_size (later ++ earlier)
heap_size-append [] earlier = omega arith
heap_size-append (cell ∷ later) earlier = omega (arith, heap_size-append later earlier)

-- a cell stands within the cells used
pub stands-within : (heap : Heap) (number : ℕ) (cell : Cell) → find_cell heap number ≡ Some cell → number + cell_size cell ≤ heap_size heap
stands-within heap number cell e =
    let s = stands heap number cell e in
    let below : heap_size (cell ∷ s.earlier) ≤ heap_size (s.later ++ cell ∷ s.earlier) = heap_size-append s.later (cell ∷ s.earlier) in
    omega (arith, below, ap heap_size s.is, s.number_is)
