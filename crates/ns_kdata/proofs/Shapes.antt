-- What a shape tells of its cell.
use Rattle.std.proofs.Common.{◌≡◌, [], length, refl, Option, Some, None}
use Rattle.std.specs.Option.{option_map_or}
use Rattle.ns_world.specs.declared.value.Value.{Value}
use Rattle.ns_world.specs.declared.value.Value.TheVariants.{Nil, True, False, Int, Sym, Kernel, Ref}
use Rattle.ns_world.specs.declared.cell.NewCell.TheVariants as new
use Rattle.ns_world.specs.Cell.{Cell, shape_of, cell_bytes, ObjectCell, ClassCell, BlockCell, EnvironmentCell, ArrayCell, TextCell, FacetCell, MirrorCell, MessageCell}
use Rattle.ns_world.specs.Heap.{Heap, find_cell}
use Rattle.ns_kdata.specs.Arguments.{shape_of_value, text_size_in, array_size_in, array_items, bytes_of, items_of}

text_cell : (o : Option Cell) → text_size_in (option_map_or shape_of o (new.Mirror Nil)) ≡ length (option_map_or cell_bytes o [])
text_cell None = refl
text_cell (Some (ObjectCell class entries)) = refl
text_cell (Some (ClassCell decl base encl holder over)) = refl
text_cell (Some (BlockCell body env home receiver holder)) = refl
text_cell (Some (EnvironmentCell parent locals)) = refl
text_cell (Some (ArrayCell items)) = refl
text_cell (Some (TextCell bytes)) = refl
text_cell (Some (FacetCell kind)) = refl
text_cell (Some (MirrorCell mirrored)) = refl
text_cell (Some (MessageCell sel args)) = refl

-- the size of a text is the count of its bytes
pub text_size_told : (heap : Heap) (value : Value) → text_size_in (shape_of_value heap value) ≡ length (bytes_of heap value)
text_size_told heap (Ref at) = text_cell (find_cell heap at)
text_size_told heap Nil = refl
text_size_told heap True = refl
text_size_told heap False = refl
text_size_told heap (Int number) = refl
text_size_told heap (Sym sel) = refl
text_size_told heap (Kernel class) = refl

array_cell : (o : Option Cell) → array_size_in (option_map_or shape_of o (new.Mirror Nil)) ≡ length (array_items o)
array_cell None = refl
array_cell (Some (ObjectCell class entries)) = refl
array_cell (Some (ClassCell decl base encl holder over)) = refl
array_cell (Some (BlockCell body env home receiver holder)) = refl
array_cell (Some (EnvironmentCell parent locals)) = refl
array_cell (Some (ArrayCell items)) = refl
array_cell (Some (TextCell bytes)) = refl
array_cell (Some (FacetCell kind)) = refl
array_cell (Some (MirrorCell mirrored)) = refl
array_cell (Some (MessageCell sel args)) = refl

-- the size of an array is the count of its elements
pub array_size_told : (heap : Heap) (value : Value) → array_size_in (shape_of_value heap value) ≡ length (items_of heap value)
array_size_told heap (Ref at) = array_cell (find_cell heap at)
array_size_told heap Nil = refl
array_size_told heap True = refl
array_size_told heap False = refl
array_size_told heap (Int number) = refl
array_size_told heap (Sym sel) = refl
array_size_told heap (Kernel class) = refl
