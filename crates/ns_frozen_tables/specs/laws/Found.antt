-- Laws of numbers: what stands under a number is what the heap has there.
use Rattle.std.proofs.Common.{◌≡◌, ℕ, zero, suc, ◌+◌, ◌<◌, ◌≤◌, List, [], ◌∷◌, length, get_or, slice_get, refl, ap, sym, ◌∙◌, arith, Some, None, option_map, Bool, true, false, cond, eqb, ltb}
use Rattle.std.proofs.lemmas.Bool.{eqb-true, eq-eqb, ltb-false}
use Rattle.ns_code.specs.declared.program.CodeProgram.{CodeProgram}
use Rattle.ns_world.specs.Cell.{Cell, cell_size}
use Rattle.ns_world.specs.Heap.{Heap, heap_size, find_cell}
use Rattle.ns_world.specs.laws.Chains.{found_in_more, size_above}
use Rattle.ns_frozen.specs.declared.cell.CellData.{CellData}
use Rattle.ns_frozen.specs.declared.cell.CellData.TheVariants as cell
use Rattle.ns_frozen.specs.Freezing.{cell_frozen}
use Rattle.ns_frozen.specs.Thawing.{cell_thawed, cells_onto, heap_thawed}
use Rattle.ns_frozen_tables.specs.Numbers.{data_size, number_end, numbers_from, data_from, IsRising, IsPlaceOf}

-- ---- one cell

pub size_thawed : (code : CodeProgram) (earlier : Heap) (one : CellData) → cell_size (cell_thawed code earlier one) ≡ data_size one
size_thawed code earlier (cell.Object class words) = refl
size_thawed code earlier (cell.Class decl encl holder over) = refl
size_thawed code earlier (cell.Block body env receiver holder home) = refl
size_thawed code earlier (cell.Environment parent locals) = refl
size_thawed code earlier (cell.Array items) = refl
size_thawed code earlier (cell.Text bytes) = refl
size_thawed code earlier (cell.Facet kind) = refl
size_thawed code earlier (cell.Mirror mirrored) = refl
size_thawed code earlier (cell.Message sel args) = refl

pub frozen_thawed : (code : CodeProgram) (earlier : Heap) (one : CellData) → cell_frozen (cell_thawed code earlier one) ≡ one
frozen_thawed code earlier (cell.Object class words) = refl
frozen_thawed code earlier (cell.Class decl encl holder over) = refl
frozen_thawed code earlier (cell.Block body env receiver holder home) = refl
frozen_thawed code earlier (cell.Environment parent locals) = refl
frozen_thawed code earlier (cell.Array items) = refl
frozen_thawed code earlier (cell.Text bytes) = refl
frozen_thawed code earlier (cell.Facet kind) = refl
frozen_thawed code earlier (cell.Mirror mirrored) = refl
frozen_thawed code earlier (cell.Message sel args) = refl

pub size_positive : (one : CellData) → 1 ≤ data_size one
size_positive (cell.Object class words) = omega arith
size_positive (cell.Class decl encl holder over) = omega arith
size_positive (cell.Block body env receiver holder home) = omega arith
size_positive (cell.Environment parent locals) = omega arith
size_positive (cell.Array items) = omega arith
size_positive (cell.Text bytes) = omega arith
size_positive (cell.Facet kind) = omega arith
size_positive (cell.Mirror mirrored) = omega arith
size_positive (cell.Message sel args) = omega arith

-- ---- the heap

-- a cell below others is found among them
pub found_below : (code : CodeProgram) (earlier : Heap) (cells : List CellData) (number : ℕ) → number < heap_size earlier
    → find_cell (cells_onto code earlier cells) number ≡ find_cell earlier number
found_below code earlier [] number h = refl
found_below code earlier (one ∷ cells) number h =
    found_below code (cell_thawed code earlier one ∷ earlier) cells number (omega (arith, h, size_above (cell_thawed code earlier one)))
    ∙ found_in_more (cell_thawed code earlier one) earlier number h

-- what stands under a number is found among the cells behind others, where it isn't one of those
pub found_behind : (code : CodeProgram) (earlier : Heap) (cells : List CellData) (number : ℕ) → find_cell earlier number ≡ None
    → option_map cell_frozen (find_cell (cells_onto code earlier cells) number) ≡ data_from (heap_size earlier) cells number
found_behind code earlier [] number none = ap (option_map cell_frozen) none
found_behind code earlier (one ∷ cells) number none = tested (eqb number (heap_size earlier)) refl (found_behind code (cell_thawed code earlier one ∷ earlier) cells number)
  where
    made : Cell
    made = cell_thawed code earlier one

    size : heap_size (made ∷ earlier) ≡ heap_size earlier + data_size one
    size = ap (λ n. heap_size earlier + n) (size_thawed code earlier one)

    tested : (b : Bool) → eqb number (heap_size earlier) ≡ b
        → (find_cell (made ∷ earlier) number ≡ None → option_map cell_frozen (find_cell (cells_onto code (made ∷ earlier) cells) number) ≡ data_from (heap_size (made ∷ earlier)) cells number)
        → option_map cell_frozen (find_cell (cells_onto code (made ∷ earlier) cells) number) ≡ cond b (Some one) (data_from (heap_size earlier + data_size one) cells number)
    tested true t below =
        let here : number ≡ heap_size earlier = eqb-true number (heap_size earlier) t in
        let first : find_cell (made ∷ earlier) number ≡ Some made = rw t refl in
        ap (option_map cell_frozen) (found_below code (made ∷ earlier) cells number (omega (arith, here, size_above made)) ∙ first)
        ∙ ap Some (frozen_thawed code earlier one)
    tested false t below =
        below (rw t none)
        ∙ ap (λ n. data_from n cells number) size

-- the heap of a frozen state has under a number what stands there
pub found_there : (code : CodeProgram) (cells : List CellData) (number : ℕ)
    → option_map cell_frozen (find_cell (heap_thawed code cells) number) ≡ data_from 0 cells number
found_there code cells number = found_behind code [] cells number refl

-- ---- the numbers

-- no cell has a number below the first one's
pub none_before : (number : ℕ) (cells : List CellData) (wanted : ℕ) → wanted < number → data_from number cells wanted ≡ None
none_before number [] wanted h = refl
none_before number (one ∷ cells) wanted h = tested (eqb wanted number) refl (none_before (number + data_size one) cells wanted (omega (arith, h)))
  where
    tested : (b : Bool) → eqb wanted number ≡ b → data_from (number + data_size one) cells wanted ≡ None
        → cond b (Some one) (data_from (number + data_size one) cells wanted) ≡ None
    tested true t below = absurd (omega (arith, h, eqb-true wanted number t))
    tested false t below = below

-- each number is at least the first one's
pub numbers_above : (number : ℕ) (cells : List CellData) (place : ℕ) → place < length (numbers_from number cells)
    → number ≤ get_or (numbers_from number cells) place 0
numbers_above number [] place h = absurd (omega (arith, h))
numbers_above number (one ∷ cells) place h = tested (ltb number number_end) refl (numbers_above (number + data_size one) cells) place h
  where
    tested : (b : Bool) → ltb number number_end ≡ b
        → ((place : ℕ) → place < length (numbers_from (number + data_size one) cells) → number + data_size one ≤ get_or (numbers_from (number + data_size one) cells) place 0)
        → (place : ℕ) → place < length (cond b (number ∷ numbers_from (number + data_size one) cells) [])
        → number ≤ get_or (cond b (number ∷ numbers_from (number + data_size one) cells) []) place 0
    tested true t above zero h = omega arith
    tested true t above (suc place) h = omega (arith, above place (omega (arith, h)))
    tested false t above place h = absurd (omega (arith, h))

-- numbers rise
pub numbers_rise : (number : ℕ) (cells : List CellData) → IsRising (numbers_from number cells)
numbers_rise number [] i j h within = absurd (omega (arith, within))
numbers_rise number (one ∷ cells) i j h within = tested (ltb number number_end) refl (numbers_rise (number + data_size one) cells) i j h within
  where
    tested : (b : Bool) → ltb number number_end ≡ b → IsRising (numbers_from (number + data_size one) cells)
        → IsRising (cond b (number ∷ numbers_from (number + data_size one) cells) [])
    tested true t rest zero zero h within = omega arith
    tested true t rest zero (suc j) h within = omega (arith, numbers_above (number + data_size one) cells j (omega (arith, within)))
    tested true t rest (suc i) zero h within = absurd (omega (arith, h))
    tested true t rest (suc i) (suc j) h within = rest i j (omega (arith, h)) (omega (arith, within))
    tested false t rest i j h within = absurd (omega (arith, within))

-- the cell at the place of a number is the one of that number
pub found_at : (number : ℕ) (cells : List CellData) (wanted place : ℕ) → IsPlaceOf (numbers_from number cells) wanted (Some place)
    → slice_get cells place ≡ data_from number cells wanted
found_at number [] wanted place is = absurd (omega (arith, is.0))
found_at number (one ∷ cells) wanted place is = tested (ltb number number_end) refl (found_at (number + data_size one) cells wanted) place is
  where
    same : number ≡ wanted → Some one ≡ cond (eqb wanted number) (Some one) (data_from (number + data_size one) cells wanted)
    same e = rw (eq-eqb wanted number (sym e)) refl

    later : (place : ℕ) → place < length (numbers_from (number + data_size one) cells) → get_or (numbers_from (number + data_size one) cells) place 0 ≡ wanted
        → slice_get cells place ≡ data_from (number + data_size one) cells wanted
        → (b : Bool) → eqb wanted number ≡ b → slice_get cells place ≡ cond b (Some one) (data_from (number + data_size one) cells wanted)
    later place within is below true t =
        absurd (omega (arith, eqb-true wanted number t, is, numbers_above (number + data_size one) cells place within, size_positive one))
    later place within is below false t = below

    tested : (b : Bool) → ltb number number_end ≡ b
        → ((place : ℕ) → IsPlaceOf (numbers_from (number + data_size one) cells) wanted (Some place) → slice_get cells place ≡ data_from (number + data_size one) cells wanted)
        → (place : ℕ) → IsPlaceOf (cond b (number ∷ numbers_from (number + data_size one) cells) []) wanted (Some place)
        → slice_get (one ∷ cells) place ≡ cond (eqb wanted number) (Some one) (data_from (number + data_size one) cells wanted)
    tested true t rest zero is = same is.1
    tested true t rest (suc place) is =
        let within : place < length (numbers_from (number + data_size one) cells) = omega (arith, is.0) in
        later place within is.1 (rest place (within, is.1)) (eqb wanted number) refl
    tested false t rest place is = absurd (omega (arith, is.0))

-- a number that stands at no place is no cell's
pub found_nowhere : (number : ℕ) (cells : List CellData) (wanted : ℕ) → wanted < number_end → IsPlaceOf (numbers_from number cells) wanted None
    → data_from number cells wanted ≡ None
found_nowhere number [] wanted small is = refl
found_nowhere number (one ∷ cells) wanted small is = tested (ltb number number_end) refl (found_nowhere (number + data_size one) cells wanted small) is
  where
    split : (b : Bool) → eqb wanted number ≡ b → (number ≡ wanted → ⊥) → data_from (number + data_size one) cells wanted ≡ None
        → cond b (Some one) (data_from (number + data_size one) cells wanted) ≡ None
    split true e other below = absurd (other (sym (eqb-true wanted number e)))
    split false e other below = below

    tested : (b : Bool) → ltb number number_end ≡ b
        → (IsPlaceOf (numbers_from (number + data_size one) cells) wanted None → data_from (number + data_size one) cells wanted ≡ None)
        → IsPlaceOf (cond b (number ∷ numbers_from (number + data_size one) cells) []) wanted None
        → cond (eqb wanted number) (Some one) (data_from (number + data_size one) cells wanted) ≡ None
    tested true t rest is =
        split (eqb wanted number) refl (λ q. is 0 (omega arith) q) (rest (λ place within. is (suc place) (omega (arith, within))))
    tested false t rest is = none_before number (one ∷ cells) wanted (omega (arith, small, ltb-false number number_end t))
