-- The environment around another.
use Rattle.std.proofs.Common.{◌≡◌, ℕ, refl, ap, sym, ◌∙◌, Option, Some, None, true}
use Rattle.std.specs.Prelude.{length}
use Rattle.ns_world.specs.declared.cell.NewCell.{NewCell}
use Rattle.ns_world.specs.declared.cell.NewCell.TheVariants as new
use Rattle.ns_world.specs.declared.value.Value.{Value}
use Rattle.ns_world.specs.Cell.{Cell, shape_of, ObjectCell, ClassCell, BlockCell, EnvironmentCell, ArrayCell, TextCell, FacetCell, MirrorCell, MessageCell}
use Rattle.ns_world.specs.Heap.{Heap, find_cell, shape_at, cell_number}
use Rattle.ns_world.specs.Lawful.{is_environment}
use Rattle.ns_moves.specs.Bodies.{parent_in}

-- a number that is told of an environment's parent is its number
pub parent_number : (heap : Heap) (at number : ℕ) → is_environment (find_cell heap at) ≡ true
    → ((parent : Value) (locals : ℕ) → shape_at heap at ≡ new.Environment parent locals → number ≡ cell_number parent)
    → number ≡ cell_number (parent_in (shape_at heap at))
parent_number heap at number is told = by_cell (find_cell heap at) refl is
  where
    by_cell : (o : Option Cell) → find_cell heap at ≡ o → is_environment o ≡ true → number ≡ cell_number (parent_in (shape_at heap at))
    by_cell (Some (EnvironmentCell parent locals)) e t =
        let here : shape_at heap at ≡ new.Environment parent (length locals) = rw e refl in
        told parent (length locals) here ∙ sym (ap (λ (shape : NewCell). cell_number (parent_in shape)) here)
    by_cell None e t = absurd (cc)
    by_cell (Some (ObjectCell class entries)) e t = absurd (cc)
    by_cell (Some (ClassCell decl base encl holder over)) e t = absurd (cc)
    by_cell (Some (BlockCell body env home receiver holder)) e t = absurd (cc)
    by_cell (Some (ArrayCell items)) e t = absurd (cc)
    by_cell (Some (TextCell bytes)) e t = absurd (cc)
    by_cell (Some (FacetCell kind)) e t = absurd (cc)
    by_cell (Some (MirrorCell shown)) e t = absurd (cc)
    by_cell (Some (MessageCell sel args)) e t = absurd (cc)
