-- What the first word of a cell tells.
use Rattle.std.specs.Prelude.{ℕ, Bool, true, false}
use Rattle.ns_world.specs.declared.cell.NewCell.{NewCell}
use Rattle.ns_world.specs.declared.cell.NewCell.TheVariants as new
use Rattle.ns_world.specs.declared.head.Head.{Head}
use Rattle.ns_world.specs.declared.head.Head.TheVariants.{Object, Class, Block, Environment, Array, Text, Facet, Mirror, Message}
use Rattle.ns_world.specs.declared.kernel_class.KernelRow.TheVariants as row
use Rattle.ns_world.specs.declared.kernel.Start.{Start}
use Rattle.ns_world.specs.declared.kernel.Start.TheVariants as start
use Rattle.ns_world.specs.Heap.{Heap, shape_at}
use Rattle.ns_world.specs.Starts.{facet_row}

-- the kind and the size of a cell, and the numbers that stand beside them
abbrev pub head_of_shape : NewCell → Head
head_of_shape (new.Object class words) = Object class words
head_of_shape (new.Class decl base encl holder over) = Class decl base
head_of_shape (new.Block body env home receiver holder) = Block body home
head_of_shape (new.Environment parent locals) = Environment locals
head_of_shape (new.Array size) = Array size
head_of_shape (new.Text bytes) = Text bytes
head_of_shape (new.Facet kind) = Facet kind
head_of_shape (new.Mirror mirrored) = Mirror
head_of_shape (new.Message sel args) = Message sel

-- the head of the cell of that number; that of a mirror where there is none
abbrev pub head_at : Heap → ℕ → Head
head_at heap number = head_of_shape (shape_at heap number)

-- whether a head is that of a class
abbrev pub is_class_head : Head → Bool
is_class_head (Class decl base) = true
is_class_head head = false

-- the declaration of a class, 0 where the cell is none
abbrev pub declared_at_head : Head → ℕ
declared_at_head (Class decl base) = decl
declared_at_head head = 0

-- the base of a class, 0 where the cell is none
abbrev pub base_at_head : Head → ℕ
base_at_head (Class decl base) = base
base_at_head head = 0

-- where the lookup starts for a cell
abbrev pub start_at_head : Head → ℕ → Start
start_at_head (Object class words) at = start.Instance class
start_at_head (Class decl base) at = start.ClassSide at true
start_at_head (Block body home) at = start.Kernel row.Block
start_at_head (Environment locals) at = start.Kernel row.Object
start_at_head (Array size) at = start.Kernel row.Array
start_at_head (Text bytes) at = start.Kernel row.String
start_at_head (Facet kind) at = start.Kernel (facet_row kind)
start_at_head Mirror at = start.Kernel row.Mirror
start_at_head (Message sel) at = start.Kernel row.Message
