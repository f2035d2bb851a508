-- What a mirror sees of the value that it mirrors.
use Rattle.std.specs.Prelude.{ℕ, ◌==◌, if◌then◌else◌}
use Rattle.ns_world.specs.declared.value.Value.{Value}
use Rattle.ns_world.specs.declared.value.Value.TheVariants.{Nil}
use Rattle.ns_world.specs.declared.cell.NewCell.{NewCell}
use Rattle.ns_world.specs.declared.cell.NewCell.TheVariants as new
use Rattle.ns_world.specs.Heap.{Heap, shape_at, no_class}
use Rattle.ns_kdata.specs.Arguments.{shape_of_value}

-- the value that a mirror mirrors, nil where the cell is another
abbrev pub mirrored_in : NewCell → Value
mirrored_in (new.Mirror value) = value
mirrored_in cell = Nil

-- the value that the mirror of that number mirrors
abbrev pub mirrored : Heap → ℕ → Value
mirrored heap mirror = mirrored_in (shape_at heap mirror)

-- the class of an object, the number of no class where the cell is another
abbrev pub object_class_in : NewCell → ℕ
object_class_in (new.Object class words) = class
object_class_in cell = no_class

-- the class of an object, the number of no class for any other value
abbrev pub object_class : Heap → Value → ℕ
object_class heap value = object_class_in (shape_of_value heap value)

-- the enclosing object of a class, nil where the cell is another
abbrev pub enclosing_in : NewCell → Value
enclosing_in (new.Class decl base encl holder over) = encl
enclosing_in cell = Nil

-- the enclosing object of a class, nil for the number of no class
abbrev pub enclosing_of_class : Heap → ℕ → Value
enclosing_of_class heap class = if class == no_class then Nil else enclosing_in (shape_at heap class)

-- the enclosing object of an object's class, or of the class that is mirrored
abbrev pub enclosing_of_shape : Heap → NewCell → Value
enclosing_of_shape heap (new.Object class words) = enclosing_of_class heap class
enclosing_of_shape heap cell = enclosing_in cell

-- `enclosing` of a value
abbrev pub enclosing : Heap → Value → Value
enclosing heap value = enclosing_of_shape heap (shape_of_value heap value)
