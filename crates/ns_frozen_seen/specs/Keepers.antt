-- The words of an object for the nested classes of the classes in its chain, of which those without nested ones are passed over.
use Rattle.std.specs.Prelude.{◌≡◌, ℕ, zero, suc, ◌+◌, ◌<◌, ◌≤◌, nat_lt, List, [], length, get_or, slice_get, Option, Some, None, Bool, true, ◌&&◌, if◌then◌else◌}
use Rattle.std.specs.Option.{option_map_or}
use Rattle.std.specs.List.{list_all}
use Rattle.ns_code.specs.declared.program.CodeProgram.{CodeProgram}
use Rattle.ns_code.specs.declared.class.ClassCode.{ClassCode}
use Rattle.ns_code.specs.declared.class.NestedCode.{NestedCode}
use Rattle.ns_world.specs.declared.value.Value.{Value}
use Rattle.ns_world.specs.Heap.{Heap, chain_of, superclass_of}
use Rattle.ns_frozen.specs.Live.{has_chain}
use Rattle.ns_frozen.specs.Cells.{are_kept_of, are_kept_from}
use Rattle.ns_frozen_seen.specs.declared.keepers.Keeper.{Keeper}
use Rattle.ns_frozen_tables.specs.Numbers.{IsPlaceOf}
use Rattle.ns_frozen_seen.specs.Climbs.{IsClimb}

-- the nested classes of a declaration, none where there is no such
abbrev pub nested_of : CodeProgram → ℕ → List NestedCode
nested_of code decl = option_map_or (λ (class : ClassCode). class.nested) (slice_get code.classes decl) []

-- how many slots it has
abbrev pub slots_of : CodeProgram → ℕ → ℕ
slots_of code decl = option_map_or (λ (class : ClassCode). length class.slots) (slice_get code.classes decl) 0

-- the chain above a class
abbrev pub rest_of : Heap → ℕ → List ℕ
rest_of heap class = if nat_lt (superclass_of heap class) class then chain_of heap (superclass_of heap class) else []

-- whether the words of an object are those for the nested classes of some classes
abbrev pub are_kept : CodeProgram → Heap → ℕ → List Value → List ℕ → Bool
are_kept code heap object words classes = list_all (are_kept_of code heap object words) classes

-- the same of the chain of the class at a place, where there is one
abbrev pub are_kept_at : CodeProgram → Heap → List ℕ → ℕ → List Value → Option ℕ → Bool
are_kept_at code heap numbers object words None = true
are_kept_at code heap numbers object words (Some place) = are_kept code heap object words (chain_of heap (get_or numbers place 0))

-- how many classes there are up to a place
abbrev pub up_to : Option ℕ → ℕ
up_to None = zero
up_to (Some place) = suc place

-- A place is that of a class with a chain, where there is one.
abbrev pub IsChained : CodeProgram → Heap → List ℕ → Option ℕ → Type 0
IsChained code heap numbers None = Unit {0}
IsChained code heap numbers (Some place) = (place < length numbers) × (has_chain code heap (get_or numbers place 0) ≡ true)

-- The place of the next class to look at stands before a place, and tells as much as some classes do.
pub record IsNext (code : CodeProgram) (heap : Heap) (numbers : List ℕ) (place : ℕ) (classes : List ℕ) (next : Option ℕ) : Type 0 where
  pub before : up_to next ≤ place
  pub chained : IsChained code heap numbers next
  pub tells : (object : ℕ) (words : List Value) → are_kept_at code heap numbers object words next ≡ are_kept code heap object words classes

-- The superclass of a class stands at a place, or there is none that was made before it.
abbrev pub IsOver : List ℕ → ℕ → ℕ → Option ℕ → Type 0
IsOver numbers holder over None = holder ≤ over
IsOver numbers holder over (Some at) = (over < holder) × IsPlaceOf numbers over (Some at)

-- The next class to look at, from a superclass on that stands at a place, if there is one.
abbrev pub IsAbove : CodeProgram → Heap → List ℕ → Option ℕ → Option ℕ → Type 0
IsAbove code heap numbers None next = next ≡ None
IsAbove code heap numbers (Some at) next =
    has_chain code heap (get_or numbers at 0) ≡ true → IsNext code heap numbers (at + 1) (chain_of heap (get_or numbers at 0)) next

-- What is kept of the class at a place: where its words begin, which class above it is the next to look at, and the way up.
pub record IsKeeper (code : CodeProgram) (heap : Heap) (numbers : List ℕ) (place : ℕ) (keeper : Keeper) : Type 0 where
  pub few : keeper.first ≤ 562949953486848
  pub before : up_to keeper.above ≤ place
  pub chained : IsChained code heap numbers keeper.above
  pub tells : (object : ℕ) (words : List Value)
      → (are_kept_from heap object keeper.holder words keeper.first (nested_of code keeper.decl) && are_kept_at code heap numbers object words keeper.above)
      ≡ are_kept code heap object words (chain_of heap (get_or numbers place 0))
  pub climb : IsClimb code heap numbers place keeper.climb

-- The same of the classes at the first places, where these have chains.
abbrev pub AreKeepers : CodeProgram → Heap → List ℕ → List Keeper → Type 0
AreKeepers code heap numbers keepers =
    (place : ℕ) (keeper : Keeper) → slice_get keepers place ≡ Some keeper → has_chain code heap (get_or numbers place 0) ≡ true
    → IsKeeper code heap numbers place keeper
