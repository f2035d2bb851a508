-- The text of a cell by its kind.
use Rattle.std.proofs.Common.{◌≡◌, ℕ, List, [], ◌++◌, refl, Option, Some, None, true, false}
use Rattle.std.specs.Prelude.{codes}
use Rattle.std.specs.Option.{option_map_or}
use Rattle.ns_code.specs.declared.program.CodeProgram.{CodeProgram}
use Rattle.ns_world.specs.declared.value.Value.TheVariants.{Nil, Ref}
use Rattle.ns_world.specs.declared.cell.NewCell.TheVariants as new
use Rattle.ns_world.specs.Cell.{Cell, ObjectCell, ClassCell, BlockCell, EnvironmentCell, ArrayCell, TextCell, FacetCell, MirrorCell, MessageCell, shape_of, cell_bytes}
use Rattle.ns_world.specs.Heap.{Heap, find_cell, is_class, bytes_at}
use Rattle.ns_world.specs.Layout.{declaration_of}
use Rattle.ns_world.specs.Starts.{declaration_in}
use Rattle.ns_kdata.specs.Arguments.{is_text, is_text_shape}
use Rattle.ns_base.specs.Quoted.{quoted}
use Rattle.ns_mirror.specs.Naming.{declared_text}
use Rattle.ns_moves.specs.Report.{cell_text}

text_cell : (code : CodeProgram) (class : List ℕ) (o : Option Cell) → is_text_shape (option_map_or shape_of o (new.Mirror Nil)) ≡ true →
    cell_text code o class ≡ quoted (option_map_or cell_bytes o [])
text_cell code class (Some (TextCell bytes)) t = refl
text_cell code class (Some (ObjectCell c entries)) t = absurd (cc)
text_cell code class (Some (ClassCell decl base encl holder over)) t = absurd (cc)
text_cell code class (Some (BlockCell body env home receiver holder)) t = absurd (cc)
text_cell code class (Some (EnvironmentCell parent locals)) t = absurd (cc)
text_cell code class (Some (ArrayCell items)) t = absurd (cc)
text_cell code class (Some (FacetCell kind)) t = absurd (cc)
text_cell code class (Some (MirrorCell value)) t = absurd (cc)
text_cell code class (Some (MessageCell sel args)) t = absurd (cc)
text_cell code class None t = absurd (cc)

-- a text is shown in quotes
pub text_shown : (heap : Heap) (code : CodeProgram) (at : ℕ) (class : List ℕ) → is_text heap (Ref at) ≡ true →
    cell_text code (find_cell heap at) class ≡ quoted (bytes_at heap at)
text_shown heap code at class t = text_cell code class (find_cell heap at) t

class_cell : (code : CodeProgram) (class : List ℕ) (o : Option Cell) → is_class o ≡ true → cell_text code o class ≡ codes "class " ++ declared_text code (declaration_in (option_map_or shape_of o (new.Mirror Nil)))
class_cell code class (Some (ClassCell decl base encl holder over)) t = refl
class_cell code class (Some (ObjectCell c entries)) t = absurd (cc)
class_cell code class (Some (BlockCell body env home receiver holder)) t = absurd (cc)
class_cell code class (Some (EnvironmentCell parent locals)) t = absurd (cc)
class_cell code class (Some (ArrayCell items)) t = absurd (cc)
class_cell code class (Some (TextCell bytes)) t = absurd (cc)
class_cell code class (Some (FacetCell kind)) t = absurd (cc)
class_cell code class (Some (MirrorCell value)) t = absurd (cc)
class_cell code class (Some (MessageCell sel args)) t = absurd (cc)
class_cell code class None t = absurd (cc)

-- a class is shown by its name
pub class_shown : (heap : Heap) (code : CodeProgram) (at : ℕ) (class : List ℕ) → is_class (find_cell heap at) ≡ true → cell_text code (find_cell heap at) class ≡ codes "class " ++ declared_text code (declaration_of heap at)
class_shown heap code at class t = class_cell code class (find_cell heap at) t

object_cell : (code : CodeProgram) (class : List ℕ) (o : Option Cell) → is_text_shape (option_map_or shape_of o (new.Mirror Nil)) ≡ false → is_class o ≡ false → cell_text code o class ≡ codes "object " ++ class
object_cell code class (Some (TextCell bytes)) t c = absurd (cc)
object_cell code class (Some (ClassCell decl base encl holder over)) t c = absurd (cc)
object_cell code class (Some (ObjectCell of entries)) t c = refl
object_cell code class (Some (BlockCell body env home receiver holder)) t c = refl
object_cell code class (Some (EnvironmentCell parent locals)) t c = refl
object_cell code class (Some (ArrayCell items)) t c = refl
object_cell code class (Some (FacetCell kind)) t c = refl
object_cell code class (Some (MirrorCell value)) t c = refl
object_cell code class (Some (MessageCell sel args)) t c = refl
object_cell code class None t c = refl

-- any other cell is shown by the name of its class
pub object_shown : (heap : Heap) (code : CodeProgram) (at : ℕ) (class : List ℕ) → is_text heap (Ref at) ≡ false → is_class (find_cell heap at) ≡ false → cell_text code (find_cell heap at) class ≡ codes "object " ++ class
object_shown heap code at class t c = object_cell code class (find_cell heap at) t c
