-- What tells of a cell that a reader of a world sees.
use Rattle.std.specs.Prelude.{ℕ, ◌+◌, ◌<◌, Bool, true, false, IsSome}
use Rattle.ns_world.specs.declared.cell.NewCell.{NewCell}
use Rattle.ns_world.specs.declared.cell.NewCell.TheVariants.{Object, Class, Block, Environment, Array, Text, Facet, Mirror, Message}
use Rattle.ns_world.specs.Cell.{text_words}
use Rattle.ns_world.specs.Heap.{Heap, heap_size, find_cell}

-- how many cells a cell of that shape takes
abbrev pub size_of_shape : NewCell → ℕ
size_of_shape (Object class words) = 1 + words
size_of_shape (Class decl base encl holder over) = 4
size_of_shape (Block body env home receiver holder) = 3
size_of_shape (Environment parent locals) = 1 + locals
size_of_shape (Array size) = 1 + size
size_of_shape (Text bytes) = 1 + text_words bytes
size_of_shape (Facet kind) = 1
size_of_shape (Mirror mirrored) = 2
size_of_shape (Message sel args) = 3

-- how many words an object of that shape has, 0 where the cell is another
abbrev pub object_words : NewCell → ℕ
object_words (Object class words) = words
object_words cell = 0

-- whether a cell is no environment
abbrev pub is_no_environment : NewCell → Bool
is_no_environment (Environment parent locals) = false
is_no_environment cell = true

-- Where a number is below the cells used, a cell has it.
abbrev pub HasCell : Heap → ℕ → Type 0
HasCell heap number = number < heap_size heap → IsSome (find_cell heap number)
