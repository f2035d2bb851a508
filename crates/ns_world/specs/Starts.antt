-- Where the lookup of a send starts, by its receiver.
use Rattle.std.specs.Prelude.{ℕ, Option, Some, None, Bool, true, false, ◌==◌, if◌then◌else◌, ◌||◌}
use Rattle.ns_world.specs.declared.value.Value.{Value}
use Rattle.ns_world.specs.declared.value.Value.TheVariants.{Nil, True, False, Int, Sym, Kernel, Ref}
use Rattle.ns_world.specs.declared.value.KClass.{KClass}
use Rattle.ns_world.specs.declared.value.KClass.TheVariants.{Object, Array}
use Rattle.ns_world.specs.declared.kernel_class.KernelRow.{KernelRow}
use Rattle.ns_world.specs.declared.kernel_class.KernelRow.TheVariants as row
use Rattle.ns_world.specs.declared.kernel.Start.{Start}
use Rattle.ns_world.specs.declared.kernel.Start.TheVariants as start
use Rattle.ns_world.specs.declared.kernel.ClassName.{ClassName}
use Rattle.ns_world.specs.declared.kernel.ClassName.TheVariants as name
use Rattle.ns_world.specs.declared.cell.FacetKind.{FacetKind}
use Rattle.ns_world.specs.declared.cell.FacetKind.TheVariants as facet
use Rattle.ns_world.specs.declared.cell.NewCell.{NewCell}
use Rattle.ns_world.specs.declared.cell.NewCell.TheVariants as new
use Rattle.ns_world.specs.Cell.{Cell, EnvironmentCell}
use Rattle.ns_world.specs.Heap.{Heap, find_cell, shape_at, no_class, is_class}

-- the class of a facet
abbrev pub facet_row : FacetKind → KernelRow
facet_row facet.Manifest = row.Manifest
facet_row facet.Platform = row.Platform
facet_row facet.Console = row.Console
facet_row facet.Mirrors = row.Mirrors
facet_row facet.Kernel = row.Kernel
facet_row facet.Board = row.Board

-- the class object of a kernel class
abbrev pub kernel_class_row : KClass → KernelRow
kernel_class_row Object = row.ObjectClass
kernel_class_row Array = row.ArrayClass

-- where the lookup starts for a cell; an environment is no receiver
abbrev pub start_of_cell : NewCell → ℕ → Start
start_of_cell (new.Object class words) at = start.Instance class
start_of_cell (new.Class decl base encl holder over) at = start.ClassSide at true
start_of_cell (new.Block body env home receiver holder) at = start.Kernel row.Block
start_of_cell (new.Environment parent locals) at = start.Kernel row.Object
start_of_cell (new.Array size) at = start.Kernel row.Array
start_of_cell (new.Text bytes) at = start.Kernel row.String
start_of_cell (new.Facet kind) at = start.Kernel (facet_row kind)
start_of_cell (new.Mirror mirrored) at = start.Kernel row.Mirror
start_of_cell (new.Message sel args) at = start.Kernel row.Message

-- where the lookup starts for a value
abbrev pub start_of : Heap → Value → Start
start_of heap Nil = start.Kernel row.UndefinedObject
start_of heap True = start.Kernel row.Boolean
start_of heap False = start.Kernel row.Boolean
start_of heap (Int number) = start.Kernel row.Integer
start_of heap (Sym sel) = start.Kernel row.Symbol
start_of heap (Kernel class) = start.Kernel (kernel_class_row class)
start_of heap (Ref at) = start_of_cell (shape_at heap at) at

-- whether a cell can be a receiver: it is there, and no environment
abbrev pub is_receiver_cell : Option Cell → Bool
is_receiver_cell (Some (EnvironmentCell parent locals)) = false
is_receiver_cell (Some cell) = true
is_receiver_cell None = false

-- whether a value can be a receiver
abbrev pub is_receiver : Heap → Value → Bool
is_receiver heap (Ref at) = is_receiver_cell (find_cell heap at)
is_receiver heap value = true

-- the declaration of a class, 0 where the cell is none
abbrev pub declaration_in : NewCell → ℕ
declaration_in (new.Class decl base encl holder over) = decl
declaration_in cell = 0

-- the class of a start, by which an error names its receiver
abbrev pub class_name_at : Heap → Start → ClassName
class_name_at heap (start.Instance class) =
    if class == no_class then name.Kernel row.Object else name.Declared (declaration_in (shape_at heap class))
class_name_at heap (start.ClassSide class factory) = name.ClassOf (declaration_in (shape_at heap class))
class_name_at heap (start.Kernel kernel) = name.Kernel kernel

-- the class of a receiver
abbrev pub class_name_of : Heap → Value → ClassName
class_name_of heap value = class_name_at heap (start_of heap value)

-- whether a shape is that of a class
abbrev pub is_class_shape : NewCell → Bool
is_class_shape (new.Class decl base encl holder over) = true
is_class_shape cell = false

-- whether the class of a start is there, or is none
abbrev pub has_class : Heap → Start → Bool
has_class heap (start.Instance class) = is_class (find_cell heap class) || class == no_class
has_class heap (start.ClassSide class factory) = is_class (find_cell heap class)
has_class heap (start.Kernel named) = true
