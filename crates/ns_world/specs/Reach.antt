-- Which cells can be reached from others, what a class sees around it, and when two worlds are alike.
use Rattle.std.specs.Prelude.{◌≡◌, ℕ, zero, suc, List, [], ◌∷◌, ◌++◌, Option, Some, None, Contains, IsSome, ◌==◌, ◌&&◌, is_none, if◌then◌else◌}
use Rattle.ns_world.specs.declared.value.Value.{Value}
use Rattle.ns_world.specs.declared.value.Value.TheVariants.{Nil, Ref}
use Rattle.ns_world.specs.declared.cell.FacetKind.TheVariants.{Manifest, Platform, Console, Mirrors, Kernel as KernelFacet, Board}
use Rattle.ns_world.specs.Cell.{Cell, ObjectCell, ClassCell, BlockCell, EnvironmentCell, ArrayCell, TextCell, FacetCell, MirrorCell, MessageCell}
use Rattle.ns_world.specs.Heap.{Heap, heap_size, find_cell, no_class, declared_class}
use Rattle.ns_world.specs.Seek.{is_nil, first_such, is_facet, is_top}

-- the enclosing object and the enclosing holder of a class
abbrev pub enclosing_in : Option Cell → Value × Value
enclosing_in (Some (ClassCell decl base encl holder over)) = (encl, holder)
enclosing_in _ = (Nil, Nil)

-- self and holder, seen from so many levels further out
abbrev pub lexical : Heap → ℕ → Value → Value → Value × Value
lexical heap zero self holder = (self, holder)
lexical heap (suc level) self holder =
    let out = enclosing_in (find_cell heap (declared_class holder)) in lexical heap level out.0 out.1

-- the first class of each declaration whose enclosing object is nil, which Manifest holds
abbrev pub tops_of : Heap → List ℕ
tops_of [] = []
tops_of (ClassCell decl base encl holder over ∷ earlier) =
    if is_nil encl && is_none (first_such (is_top decl) earlier) then heap_size earlier ∷ tops_of earlier else tops_of earlier
tops_of (cell ∷ earlier) = tops_of earlier

-- a number, where there is one
abbrev pub listed : Option ℕ → List ℕ
listed None = []
listed (Some number) = number ∷ []

-- the cells that a value refers to
abbrev pub referred : Value → List ℕ
referred (Ref at) = at ∷ []
referred _ = []

abbrev pub all_referred : List Value → List ℕ
all_referred [] = []
all_referred (value ∷ values) = referred value ++ all_referred values

-- a class by its number, none for that of no class
abbrev pub class_held : ℕ → List ℕ
class_held class = if class == no_class then [] else class ∷ []

-- the facets that Platform holds
abbrev pub facets_of : Heap → List ℕ
facets_of heap =
    listed (first_such (is_facet Console) heap) ++ (listed (first_such (is_facet Mirrors) heap)
    ++ (listed (first_such (is_facet KernelFacet) heap) ++ listed (first_such (is_facet Board) heap)))

-- the cells that a cell holds: Platform the facets that were granted, Manifest the top-level classes
abbrev pub held : Heap → Cell → List ℕ
held heap (ObjectCell class entries) = class_held class ++ all_referred entries
held heap (ClassCell decl base encl holder over) = referred encl ++ (referred holder ++ referred over)
held heap (BlockCell body env home receiver holder) = referred env ++ (referred receiver ++ class_held holder)
held heap (EnvironmentCell parent locals) = referred parent ++ all_referred locals
held heap (ArrayCell items) = all_referred items
held heap (TextCell bytes) = []
held heap (FacetCell Platform) = facets_of heap
held heap (FacetCell Manifest) = tops_of heap
held heap (FacetCell kind) = []
held heap (MirrorCell mirrored) = referred mirrored
held heap (MessageCell sel args) = referred args

-- The cells that are reached: the roots, and each cell that a reached one holds.
pub data IsInReach (heap : Heap) (roots : List ℕ) : (number : ℕ) → Type 0 where
  IsRoot : (number : ℕ) → Contains roots number → IsSome (find_cell heap number) → IsInReach heap roots number
  IsHeld : (from number : ℕ) (cell : Cell) → IsInReach heap roots from → find_cell heap from ≡ Some cell
      → Contains (held heap cell) number → IsSome (find_cell heap number) → IsInReach heap roots number
