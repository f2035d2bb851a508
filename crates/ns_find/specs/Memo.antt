-- Which lookups and ways that are kept are right.
use Rattle.std.specs.Prelude.{◌≡◌, List, Option, Some, None, IsTrue, Contains, ℕ, true, false, IsSome}
use Rattle.ns_code.specs.declared.program.CodeProgram.{CodeProgram}
use Rattle.ns_world.specs.declared.cell.FacetKind.{FacetKind}
use Rattle.ns_world.specs.Cell.{Cell}
use Rattle.ns_world.specs.Heap.{Heap}
use Rattle.ns_world.specs.Seek.{first_such, is_facet, is_top}
use Rattle.ns_find.specs.declared.memo.Kept.{Kept}
use Rattle.ns_find.specs.declared.memo.Kept.TheVariants.{Looked, Out}
use Rattle.ns_find.specs.declared.memo.Lookup.{Lookup}
use Rattle.ns_find.specs.declared.memo.Way.{Way}
use Rattle.ns_find.specs.Find.{found_from, is_start}
use Rattle.ns_find.specs.Outward.{outward, IsWay}

-- A place that keeps nothing.
abbrev pub IsEmpty : Option Kept → Type 0
IsEmpty place = place ≡ None

-- A place keeps nothing; or a lookup from a start of this world, with what it finds; or a way whose cells are there,
-- with the one at its end.
abbrev pub PlaceIsRight : Heap → CodeProgram → Option Kept → Type 0
PlaceIsRight heap code None = Unit {0}
PlaceIsRight heap code (Some (Looked kept)) = IsTrue (is_start heap kept.start) × (kept.found ≡ found_from heap code kept.start kept.sel.0 kept.kind)
PlaceIsRight heap code (Some (Out way)) = IsWay heap way.from way.levels × (way.to ≡ outward heap way.from way.levels)

-- A lookup is kept at some place.
abbrev pub LookupIsKept : List (Option Kept) → Lookup → Type 0
LookupIsKept places kept = Contains places (Some (Looked kept))

-- A way is kept at some place.
abbrev pub WayIsKept : List (Option Kept) → Way → Type 0
WayIsKept places way = Contains places (Some (Out way))

-- A cell gives Platform no facet and Manifest no class: it is no facet, and no first class of a
-- declaration with nil as its enclosing object.
abbrev pub AddsNoRow : Heap → Cell → Type 0
AddsNoRow heap cell =
    ((kind : FacetKind) → is_facet kind cell ≡ false) × ((decl : ℕ) → is_top decl cell ≡ true → IsSome (first_such (is_top decl) heap))
