-- The cells of a heap are gone over by their numbers, from the oldest on.
use Rattle.std.proofs.Common.{◌≡◌, ℕ, ◌+◌, ◌<◌, ◌≤◌, List, [], ◌∷◌, ◌++◌, map, reverse, refl, ap, sym, ◌∙◌, subst, arith, append_assoc, append-nil}
use Rattle.std.proofs.Common.{Option, Some, None, IsSome, Bool, true, false, cond, eqb, leb, ◌⊎◌, inl, inr}
use Rattle.std.proofs.lemmas.Bool.{eqb-true, eqb-false, le-leb, lt-leb, cases_lt}
use Rattle.std.proofs.lemmas.List.{reverse-append, map-append}
use Rattle.std.specs.Option.{option_map_or}
use Rattle.ns_world.specs.Cell.{Cell, cell_size}
use Rattle.ns_world.specs.Heap.{Heap, heap_size, find_cell, next_number}
use Rattle.ns_world.specs.laws.Standing.{stands-within}
use Rattle.ns_world.specs.laws.Chains.{size_above}
use Rattle.ns_frozen.specs.declared.cell.CellData.{CellData}
use Rattle.ns_frozen.specs.Freezing.{cell_frozen, cells_frozen}
use Rattle.ns_machine_freeze.specs.Walk.{cells_from, data_at}
use Rattle.ns_machine_freeze.proofs.Shaped.{data_is}

-- ---- the cells from a number on

-- from the first on they are all
pub all_from : (heap : Heap) → cells_from heap 0 ≡ cells_frozen heap
all_from [] = refl
all_from (cell ∷ earlier) =
    let test : leb 0 (heap_size earlier) ≡ true = le-leb 0 (heap_size earlier) (omega arith) in
    ap (λ (b : Bool). cond b (cells_from earlier 0 ++ cell_frozen cell ∷ []) []) test
    ∙ (ap (λ (cells : List CellData). cells ++ cell_frozen cell ∷ []) (all_from earlier)
    ∙ (sym (map-append cell_frozen (reverse earlier) (cell ∷ [])) ∙ ap (map cell_frozen) (sym (reverse-append (cell ∷ []) earlier))))

-- behind the last there are none
pub none_from : (heap : Heap) (number : ℕ) → heap_size heap ≤ number → cells_from heap number ≡ []
none_from [] number past = refl
none_from (cell ∷ earlier) number past =
    let above = size_above cell in
    let test : leb number (heap_size earlier) ≡ false = lt-leb number (heap_size earlier) (omega (arith, past, above)) in
    ap (λ (b : Bool). cond b (cells_from earlier number ++ cell_frozen cell ∷ []) []) test

-- from a cell on they are that one and those behind it
here_from : (heap : Heap) (number : ℕ) (cell : Cell) → find_cell heap number ≡ Some cell →
    cells_from heap number ≡ cell_frozen cell ∷ cells_from heap (number + cell_size cell)
here_from [] number cell e = absurd (cc)
here_from (first ∷ earlier) number cell e = tested (eqb number (heap_size earlier)) refl e (here_from earlier number cell)
  where
    at_last : first ≡ cell → number ≡ heap_size earlier
        → cells_from (first ∷ earlier) number ≡ cell_frozen cell ∷ cells_from (first ∷ earlier) (number + cell_size cell)
    at_last same at =
        let above = size_above cell in
        let size = ap cell_size same in
        let test : leb number (heap_size earlier) ≡ true = le-leb number (heap_size earlier) (omega (arith, at)) in
        let none : cells_from earlier number ≡ [] = none_from earlier number (omega (arith, at)) in
        let behind : cells_from (first ∷ earlier) (number + cell_size cell) ≡ [] =
        none_from (first ∷ earlier) (number + cell_size cell) (omega (arith, at, size)) in
        ap (λ (b : Bool). cond b (cells_from earlier number ++ cell_frozen first ∷ []) []) test
        ∙ (ap (λ (cells : List CellData). cells ++ cell_frozen first ∷ []) none
        ∙ (ap (λ (c : Cell). cell_frozen c ∷ []) same ∙ ap (λ (cells : List CellData). cell_frozen cell ∷ cells) (sym behind)))

    at_earlier : find_cell earlier number ≡ Some cell
        → cells_from earlier number ≡ cell_frozen cell ∷ cells_from earlier (number + cell_size cell)
        → cells_from (first ∷ earlier) number ≡ cell_frozen cell ∷ cells_from (first ∷ earlier) (number + cell_size cell)
    at_earlier there below =
        let within = stands-within earlier number cell there in
        let test : leb number (heap_size earlier) ≡ true = le-leb number (heap_size earlier) (omega (arith, within)) in
        let next : leb (number + cell_size cell) (heap_size earlier) ≡ true = le-leb (number + cell_size cell) (heap_size earlier) within in
        ap (λ (b : Bool). cond b (cells_from earlier number ++ cell_frozen first ∷ []) []) test
        ∙ (ap (λ (cells : List CellData). cells ++ cell_frozen first ∷ []) below
        ∙ ap (λ (b : Bool). cell_frozen cell ∷ cond b (cells_from earlier (number + cell_size cell) ++ cell_frozen first ∷ []) []) (sym next))

    tested : (b : Bool) → eqb number (heap_size earlier) ≡ b → cond b (Some first) (find_cell earlier number) ≡ Some cell
        → (find_cell earlier number ≡ Some cell → cells_from earlier number ≡ cell_frozen cell ∷ cells_from earlier (number + cell_size cell))
        → cells_from (first ∷ earlier) number ≡ cell_frozen cell ∷ cells_from (first ∷ earlier) (number + cell_size cell)
    tested true t found below = at_last (cc) (eqb-true number (heap_size earlier) t)
    tested false t found below = at_earlier found (below found)

-- ---- which numbers are those of cells

-- what is at most a number and isn't it is below it
strictly : (a b : ℕ) → a ≤ b → eqb a b ≡ false → a < b
strictly a b most other = by (cases_lt a b)
  where
    by : (a < b) ⊎ (b ≤ a) → a < b
    by (inl below) = below
    by (inr above) = let same : a ≡ b = omega (arith, most, above) in absurd (eqb-false a b other same)

first_there : (heap : Heap) → 0 < heap_size heap → IsSome (find_cell heap 0)
first_there [] some = absurd (omega (arith, some))
first_there (cell ∷ earlier) some = tested (eqb 0 (heap_size earlier)) refl (first_there earlier)
  where
    tested : (b : Bool) → eqb 0 (heap_size earlier) ≡ b → (0 < heap_size earlier → IsSome (find_cell earlier 0))
        → IsSome (cond b (Some cell) (find_cell earlier 0))
    tested true t below = refl
    tested false t below = below (strictly 0 (heap_size earlier) (omega arith) t)

next_there : (heap : Heap) (number : ℕ) (cell : Cell) → find_cell heap number ≡ Some cell → number + cell_size cell < heap_size heap
    → IsSome (find_cell heap (number + cell_size cell))
next_there [] number cell e more = absurd (cc)
next_there (first ∷ earlier) number cell e more = tested (eqb number (heap_size earlier)) refl e (next_there earlier number cell)
  where
    behind : (b : Bool) → eqb (number + cell_size cell) (heap_size earlier) ≡ b → number + cell_size cell ≤ heap_size earlier
        → (number + cell_size cell < heap_size earlier → IsSome (find_cell earlier (number + cell_size cell)))
        → IsSome (cond b (Some first) (find_cell earlier (number + cell_size cell)))
    behind true t within below = refl
    behind false t within below = below (strictly (number + cell_size cell) (heap_size earlier) within t)

    tested : (b : Bool) → eqb number (heap_size earlier) ≡ b → cond b (Some first) (find_cell earlier number) ≡ Some cell
        → (find_cell earlier number ≡ Some cell → number + cell_size cell < heap_size earlier → IsSome (find_cell earlier (number + cell_size cell)))
        → IsSome (find_cell (first ∷ earlier) (number + cell_size cell))
    tested true t found below =
        let same : first ≡ cell = cc in
        let at = eqb-true number (heap_size earlier) t in
        let size = ap cell_size same in
        absurd (omega (arith, more, at, size))
    tested false t found below =
        behind (eqb (number + cell_size cell) (heap_size earlier)) refl (stands-within earlier number cell found) (below found)

-- ---- the walk

-- Some cells were gone over, and the next has that number, if there is one.
pub record Walked (heap : Heap) (cells : List CellData) (at : ℕ) : Type 0 where
  pub all : cells ++ cells_from heap at ≡ cells_frozen heap
  pub there : at < heap_size heap → IsSome (find_cell heap at)

pub walk_starts : (heap : Heap) → Walked heap [] 0
walk_starts heap = record { all = all_from heap; there = first_there heap }

-- the number behind a cell
next_is : (heap : Heap) (at : ℕ) (cell : Cell) → find_cell heap at ≡ Some cell → next_number heap at ≡ at + cell_size cell
next_is heap at cell e = ap (λ (o : Option Cell). at + option_map_or cell_size o 0) e

-- a cell that is there is one
pub record IsThere (heap : Heap) (at : ℕ) : Type 0 where
  pub cell : Cell
  pub is : find_cell heap at ≡ Some cell

some_there : (heap : Heap) (at : ℕ) → IsSome (find_cell heap at) → IsThere heap at
some_there heap at some = of (find_cell heap at) refl some
  where
    of : (o : Option Cell) → find_cell heap at ≡ o → IsSome o → IsThere heap at
    of (Some cell) e s = record { cell = cell; is = e }
    of None e s = absurd (cc)

pub walk_goes_on : (heap : Heap) (cells : List CellData) (at : ℕ) → at < heap_size heap → Walked heap cells at
    → Walked heap (cells ++ data_at heap at ∷ []) (next_number heap at)
walk_goes_on heap cells at more walked =
    let one = some_there heap at (walked.there more) in
    let next = next_is heap at one.cell one.is in
    record {
      all =
          append_assoc cells (data_at heap at ∷ []) (cells_from heap (next_number heap at))
          ∙ (ap (λ (one : CellData). cells ++ one ∷ cells_from heap (next_number heap at)) (data_is heap at one.cell one.is)
          ∙ (ap (λ (n : ℕ). cells ++ cell_frozen one.cell ∷ cells_from heap n) next
          ∙ (ap (λ (rest : List CellData). cells ++ rest) (sym (here_from heap at one.cell one.is)) ∙ walked.all)));
      there = λ within. subst (λ (n : ℕ). IsSome (find_cell heap n)) (sym next)
          (next_there heap at one.cell one.is (omega (arith, within, next)));
    }

-- the next number is a greater one
pub walk_rises : (heap : Heap) (cells : List CellData) (at : ℕ) → at < heap_size heap → Walked heap cells at → at < next_number heap at
walk_rises heap cells at more walked =
    let one = some_there heap at (walked.there more) in
    let next = next_is heap at one.cell one.is in
    let above = size_above one.cell in
    omega (arith, next, above)

pub walk_ends : (heap : Heap) (cells : List CellData) (at : ℕ) → heap_size heap ≤ at → Walked heap cells at → cells ≡ cells_frozen heap
walk_ends heap cells at past walked =
    sym (append-nil cells) ∙ (ap (λ (rest : List CellData). cells ++ rest) (sym (none_from heap at past)) ∙ walked.all)
