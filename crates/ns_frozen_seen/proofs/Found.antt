-- What was found of what is seen is the heap's and the code's.
use Rattle.std.proofs.Common.{◌≡◌, ℕ, ◌<◌, ◌≤◌, List, [], slice_get, ap, sym, ◌∙◌, subst, arith, Some, None, option_map, true, Option}
use Rattle.ns_code.specs.declared.program.CodeProgram.{CodeProgram}
use Rattle.ns_world.specs.Heap.{Heap, find_cell}
use Rattle.ns_frozen.specs.Freezing.{cell_frozen}
use Rattle.ns_frozen_tables.specs.Numbers.{number_end, IsRising, IsPlaceOf}
use Rattle.ns_frozen_seen.specs.declared.seen.Seen.{Seen}
use Rattle.ns_frozen_seen.specs.Fitting.{AreFitting}
use Rattle.ns_frozen_seen.specs.Seen.{IsSeen, heap_of}
use Rattle.ns_world.specs.Layout.{layout_of}
use Rattle.ns_frozen.specs.Frames.{has_nested}
use Rattle.ns_frozen_tables.specs.laws.Found.{found_there, numbers_rise, found_at, found_nowhere}
use Rattle.ns_frozen_tables.specs.laws.Few.{layout_few, entries_few}

-- the numbers of cells that are seen rise
pub rising_numbers : (seen : Seen) → IsSeen seen → IsRising seen.numbers
rising_numbers seen is = subst IsRising (sym is.numbers) (numbers_rise 0 seen.cells.now)

-- the cell at the place of a number is the heap's
pub found_one : (seen : Seen) (numbers : List ℕ) (number place : ℕ) → IsSeen seen → numbers ≡ seen.numbers → IsPlaceOf numbers number (Some place)
    → slice_get seen.cells.now place ≡ option_map cell_frozen (find_cell (heap_of seen) number)
found_one seen numbers number place is same at =
    found_at 0 seen.cells.now number place (subst (λ (ns : List ℕ). IsPlaceOf ns number (Some place)) (same ∙ is.numbers) at)
    ∙ sym (found_there seen.code.now seen.cells.now number)

-- no cell of the heap has a number that is at no place
pub found_none : (seen : Seen) (numbers : List ℕ) (number : ℕ) → IsSeen seen → number < number_end → numbers ≡ seen.numbers → IsPlaceOf numbers number None
    → None ≡ option_map cell_frozen (find_cell (heap_of seen) number)
found_none seen numbers number is small same at =
    sym (found_nowhere 0 seen.cells.now number small (subst (λ (ns : List ℕ). IsPlaceOf ns number None) (same ∙ is.numbers) at))
    ∙ sym (found_there seen.code.now seen.cells.now number)

-- and a class that a reference can name has few
pub seen_few : (seen : Seen) (class : ℕ) → IsSeen seen → class < number_end → layout_of (heap_of seen) seen.code.now class ≤ 562949953421312
seen_few seen class is small = omega (arith, layout_few seen.code.now (entries_few seen.code.now is.fits) (heap_of seen) class, small)

-- what is known is so
pub nested_known : (seen : Seen) (outers : List (Option ℕ)) (class decl : ℕ) → IsSeen seen → outers ≡ seen.outers
    → slice_get outers class ≡ Some (Some decl) → true ≡ has_nested seen.code.now decl class
nested_known seen outers class decl is same there = sym (is.outers class decl (sym (ap (λ os. slice_get os class) same) ∙ there))

pub empty_fits : (code : CodeProgram) (heap : Heap) (numbers kept : List ℕ) → kept ≡ [] → AreFitting code heap numbers kept
empty_fits code heap numbers kept e place body there within =
    let nowhere : None ≡ Some body = sym (ap (λ (ks : List ℕ). slice_get ks place) e) ∙ there in
    absurd (cc)
