-- What a shape tells of its cell.
use Rattle.std.proofs.Common.{◌≡◌, ℕ, refl, Option, Some, None}
use Rattle.std.specs.Option.{option_map_or}
use Rattle.ns_world.specs.declared.value.Value.TheVariants.{Nil}
use Rattle.ns_world.specs.declared.cell.NewCell.TheVariants.{Mirror}
use Rattle.ns_world.specs.Cell.{Cell, shape_of, ObjectCell, ClassCell, BlockCell, EnvironmentCell, ArrayCell, TextCell, FacetCell, MirrorCell, MessageCell}
use Rattle.ns_world.specs.Heap.{Heap, find_cell, is_class, shape_at}
use Rattle.ns_world.specs.Starts.{is_class_shape}

class_shape : (o : Option Cell) → is_class_shape (option_map_or shape_of o (Mirror Nil)) ≡ is_class o
class_shape None = refl
class_shape (Some (ObjectCell class entries)) = refl
class_shape (Some (ClassCell decl base encl holder over)) = refl
class_shape (Some (BlockCell body env home receiver holder)) = refl
class_shape (Some (EnvironmentCell parent locals)) = refl
class_shape (Some (ArrayCell items)) = refl
class_shape (Some (TextCell bytes)) = refl
class_shape (Some (FacetCell kind)) = refl
class_shape (Some (MirrorCell mirrored)) = refl
class_shape (Some (MessageCell sel args)) = refl

-- the shape of a cell tells whether it is a class
pub is_class_told : (heap : Heap) (number : ℕ) → is_class_shape (shape_at heap number) ≡ is_class (find_cell heap number)
is_class_told heap number = class_shape (find_cell heap number)
