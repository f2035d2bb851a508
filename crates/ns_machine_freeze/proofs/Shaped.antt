-- A cell is its shape with its words and its bytes.
use Rattle.std.proofs.Common.{◌≡◌, ℕ, [], refl, ap, ◌∙◌, Option, Some}
use Rattle.std.specs.Option.{option_map_or}
use Rattle.ns_world.specs.declared.value.Value.TheVariants.{Nil}
use Rattle.ns_world.specs.declared.cell.NewCell.TheVariants as new
use Rattle.ns_world.specs.Cell.{Cell, ObjectCell, ClassCell, BlockCell, EnvironmentCell, ArrayCell, TextCell, FacetCell, MirrorCell, MessageCell, shape_of, cell_words, cell_bytes}
use Rattle.ns_world.specs.Heap.{Heap, find_cell}
use Rattle.ns_frozen.specs.Freezing.{cell_frozen}
use Rattle.ns_machine_freeze.specs.Walk.{data_of, data_at}

of_parts : (cell : Cell) → data_of (shape_of cell) (cell_words cell) (cell_bytes cell) ≡ cell_frozen cell
of_parts (ObjectCell class entries) = refl
of_parts (ClassCell decl base encl holder over) = refl
of_parts (BlockCell body env home receiver holder) = refl
of_parts (EnvironmentCell parent locals) = refl
of_parts (ArrayCell items) = refl
of_parts (TextCell bytes) = refl
of_parts (FacetCell kind) = refl
of_parts (MirrorCell mirrored) = refl
of_parts (MessageCell sel args) = refl

pub data_is : (heap : Heap) (number : ℕ) (cell : Cell) → find_cell heap number ≡ Some cell → data_at heap number ≡ cell_frozen cell
data_is heap number cell e =
    ap (λ (o : Option Cell). data_of (option_map_or shape_of o (new.Mirror Nil)) (option_map_or cell_words o []) (option_map_or cell_bytes o [])) e
    ∙ of_parts cell
