-- The first cells of a kind: what Platform holds of facets, and Manifest of top-level classes.
use Rattle.std.specs.Prelude.{ℕ, [], ◌∷◌, Option, Some, None, Bool, true, false, ◌==◌, ◌&&◌, is_none, if◌then◌else◌}
use Rattle.ns_world.specs.declared.value.Value.{Value}
use Rattle.ns_world.specs.declared.value.Value.TheVariants.{Nil}
use Rattle.ns_world.specs.declared.cell.FacetKind.{FacetKind}
use Rattle.ns_world.specs.declared.cell.FacetKind.TheVariants.{Manifest, Platform, Console, Mirrors, Kernel, Board}
use Rattle.ns_world.specs.declared.cell.NewCell.{NewCell}
use Rattle.ns_world.specs.declared.cell.NewCell.TheVariants as new
use Rattle.ns_world.specs.declared.word.Word.{Word}
use Rattle.ns_world.specs.declared.word.Word.TheVariants.{Nil as NilWord, Class, Facet as FacetWord}
use Rattle.ns_world.specs.declared.seek.Sought.{Sought}
use Rattle.ns_world.specs.declared.seek.Sought.TheVariants.{Facet, Top}
use Rattle.ns_world.specs.Cell.{Cell, ClassCell, FacetCell}
use Rattle.ns_world.specs.Heap.{Heap, heap_size}

-- the place of a kind of facet in the order of their declaration
abbrev pub facet_number : FacetKind → ℕ
facet_number Manifest = 0
facet_number Platform = 1
facet_number Console = 2
facet_number Mirrors = 3
facet_number Kernel = 4
facet_number Board = 5

-- whether a value is nil
abbrev pub is_nil : Value → Bool
is_nil Nil = true
is_nil _ = false

-- whether a cell is a facet of that kind
abbrev pub is_facet : FacetKind → Cell → Bool
is_facet kind (FacetCell other) = facet_number kind == facet_number other
is_facet kind _ = false

-- whether a cell is a class of that declaration with nil as its enclosing object
abbrev pub is_top : ℕ → Cell → Bool
is_top decl (ClassCell other base encl holder over) = decl == other && is_nil encl
is_top decl _ = false

-- whether a cell is sought
abbrev pub is_sought : Sought → Cell → Bool
is_sought (Facet kind) cell = is_facet kind cell
is_sought (Top decl) cell = is_top decl cell

-- an earlier number, or else a later one
abbrev pub earlier_or : Option ℕ → Option ℕ → Option ℕ
earlier_or (Some number) later = Some number
earlier_or None later = later

-- the number of the first cell that was made and passes a test, if there is one
abbrev pub first_such : (Cell → Bool) → Heap → Option ℕ
first_such test [] = None
first_such test (cell ∷ earlier) = earlier_or (first_such test earlier) (if test cell then Some (heap_size earlier) else None)

-- whether a cell to be made can be the first of what is sought: a facet, or a class of a top-level
-- declaration of which no class was made
abbrev pub may_be_first : Heap → NewCell → Bool
may_be_first heap (new.Facet kind) = true
may_be_first heap (new.Class decl base encl holder over) = is_nil encl && is_none (first_such (is_top decl) heap)
may_be_first heap cell = false

-- the same tests on words
abbrev pub is_nil_at : Word → Bool
is_nil_at (NilWord) = true
is_nil_at _ = false

abbrev pub is_facet_at : FacetKind → Word → Bool
is_facet_at kind (FacetWord other) = facet_number kind == facet_number other
is_facet_at kind _ = false

abbrev pub is_top_at : ℕ → Word → Word → Bool
is_top_at decl (Class other base) next = decl == other && is_nil_at next
is_top_at decl _ next = false

abbrev pub is_sought_at : Sought → Word → Word → Bool
is_sought_at (Facet kind) head next = is_facet_at kind head
is_sought_at (Top decl) head next = is_top_at decl head next
