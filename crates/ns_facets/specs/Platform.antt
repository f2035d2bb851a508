-- The rows of Manifest and of Platform.
use Rattle.std.specs.Prelude.{ℕ, ◌+◌, List, [], ◌∷◌, ◌==◌, ◌&&◌, Option, Some, None, is_none, if◌then◌else◌}
use Rattle.ns_base.specs.declared.selector.Sel.{Sel}
use Rattle.ns_code.specs.declared.class.ClassCode.{ClassCode}
use Rattle.ns_world.specs.declared.value.Value.{Value}
use Rattle.ns_world.specs.declared.value.Value.TheVariants.{Nil, Ref}
use Rattle.ns_world.specs.declared.cell.FacetKind.{FacetKind}
use Rattle.ns_world.specs.Heap.{Heap}
use Rattle.ns_world.specs.Seek.{first_such, is_facet, is_top}

-- the cell of a number, nil where there is none
abbrev pub cell_value : Option ℕ → Value
cell_value (Some at) = Ref at
cell_value None = Nil

-- the top-level class of a name among declarations that are numbered from a number on: the first of it
abbrev pub top_class : Heap → ℕ → List ClassCode → Sel → Value
top_class heap number [] sel = Nil
top_class heap number (class ∷ classes) sel =
    if sel.0 == class.name.0 && is_none class.outer then cell_value (first_such (is_top number) heap) else top_class heap (number + 1) classes sel

-- the facet of a kind
abbrev pub granted : Heap → FacetKind → Value
granted heap kind = cell_value (first_such (is_facet kind) heap)
