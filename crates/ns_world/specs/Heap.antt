-- The cells of a world, the newest first. The number of a cell is the sum of the sizes of those made before it.
use Rattle.std.specs.Prelude.{ℕ, ◌+◌, ◌*◌, take, drop, List, [], ◌∷◌, Option, Some, None, Bool, true, false, ◌==◌, ◌&&◌, ◌||◌, if◌then◌else◌}
use Rattle.ns_world.specs.declared.value.Value.{Value}
use Rattle.ns_world.specs.declared.value.Value.TheVariants.{Nil, Kernel, Ref}
use Rattle.ns_world.specs.declared.value.KClass.TheVariants.{Object}
use Rattle.std.specs.Option.{option_map_or}
use Rattle.std.specs.List.{slice_index_or}
use Rattle.ns_world.specs.Cell.{Cell, ClassCell, cell_size, cell_words, open_words, cell_bytes, with_word, with_byte, shape_of}
use Rattle.ns_world.specs.declared.cell.NewCell.{NewCell}
use Rattle.ns_world.specs.declared.cell.NewCell.TheVariants.{Mirror}

abbrev pub Heap : Type 0
Heap = List Cell

-- the cells used
abbrev pub heap_size : Heap → ℕ
heap_size [] = 0
heap_size (cell ∷ earlier) = heap_size earlier + cell_size cell

-- the cell of that number, if there is one
abbrev pub find_cell : Heap → ℕ → Option Cell
find_cell [] number = None
find_cell (cell ∷ earlier) number = if number == heap_size earlier then Some cell else find_cell earlier number

-- the cells with the one of that number replaced
abbrev pub set_cell : Heap → ℕ → Cell → Heap
set_cell [] number new = []
set_cell (cell ∷ earlier) number new =
    if number == heap_size earlier then new ∷ earlier else cell ∷ set_cell earlier number new

-- whether a cell is a class
abbrev pub is_class : Option Cell → Bool
is_class (Some (ClassCell decl base encl holder over)) = true
is_class _ = false

-- whether a superclass is the kernel's Object or a class made before
abbrev pub is_superclass : Heap → Value → Bool
is_superclass earlier (Kernel Object) = true
is_superclass earlier (Ref class) = is_class (find_cell earlier class)
is_superclass earlier _ = false

-- whether a cell, if it is a class, has such a superclass
abbrev pub has_superclass : Heap → Cell → Bool
has_superclass earlier (ClassCell decl base encl holder over) = is_superclass earlier over
has_superclass earlier _ = true

-- whether each class has a superclass made before it
abbrev pub is_ordered : Heap → Bool
is_ordered [] = true
is_ordered (cell ∷ earlier) = has_superclass earlier cell && is_ordered earlier

-- the classes above, where the superclass is declared
abbrev pub chain_above : Value → (ℕ → List ℕ) → List ℕ
chain_above (Ref class) chain = chain class
chain_above _ chain = []

-- a class and those above it, by the chains of the cells made before
abbrev pub chain_at : Cell → ℕ → (ℕ → List ℕ) → List ℕ
chain_at (ClassCell decl base encl holder over) number chain = number ∷ chain_above over chain
chain_at _ number chain = []

-- the class of that number, its superclass and so on, while these are declared
abbrev pub chain_of : Heap → ℕ → List ℕ
chain_of [] class = []
chain_of (cell ∷ earlier) class =
    if class == heap_size earlier then chain_at cell class (chain_of earlier) else chain_of earlier class

-- the superclass of a class, nil where the cell is none
abbrev pub superclass_in : Option Cell → Value
superclass_in (Some (ClassCell decl base encl holder over)) = over
superclass_in _ = Nil

-- the number of the cell that a value refers to, 0 where it refers to none
abbrev pub cell_number : Value → ℕ
cell_number (Ref at) = at
cell_number value = 0

-- the values behind the head of the cell of that number
abbrev pub words_at : Heap → ℕ → List Value
words_at heap number = option_map_or cell_words (find_cell heap number) []

-- one of them
abbrev pub word_at : Heap → ℕ → ℕ → Value
word_at heap number word = slice_index_or (words_at heap number) word Nil

-- a word of what a reference names, nil for any other value
abbrev pub word_of_object : Heap → Value → ℕ → Value
word_of_object heap (Ref at) word = word_at heap at word
word_of_object heap other word = Nil

-- the words of the cell of that number that may be written
abbrev pub open_words_at : Heap → ℕ → List Value
open_words_at heap number = option_map_or open_words (find_cell heap number) []

-- the bytes of the text of that number
abbrev pub bytes_at : Heap → ℕ → List ℕ
bytes_at heap number = option_map_or cell_bytes (find_cell heap number) []

-- one of them
abbrev pub byte_at : Heap → ℕ → ℕ → ℕ
byte_at heap number place = slice_index_or (bytes_at heap number) place 0

-- eight of them, the row of that number among all rows of eight
abbrev pub row_at : Heap → ℕ → ℕ → List ℕ
row_at heap number row = take 8 (drop (8 * row) (bytes_at heap number))

-- the cells with one of them changed
abbrev pub change_cell : Heap → ℕ → (Cell → Cell) → Heap
change_cell heap number change = option_map_or (λ cell. set_cell heap number (change cell)) (find_cell heap number) heap

-- the cells with a word written
abbrev pub write_word : Heap → ℕ → ℕ → Value → Heap
write_word heap number word value = change_cell heap number (λ cell. with_word cell word value)

-- the cells with a byte of a text written
abbrev pub write_byte : Heap → ℕ → ℕ → ℕ → Heap
write_byte heap number place byte = change_cell heap number (λ cell. with_byte cell place byte)

-- the kind, the sizes and the fixed parts of the cell of that number; those of a mirror of nil where there is none
abbrev pub shape_at : Heap → ℕ → NewCell
shape_at heap number = option_map_or shape_of (find_cell heap number) (Mirror Nil)

-- the number of no class, which stands for the chain without declared classes
abbrev pub no_class : ℕ
no_class = 4294967295

-- whether a chain can start there: at a class, or at none
abbrev pub is_chain_start : Heap → ℕ → Bool
is_chain_start heap class = is_class (find_cell heap class) || class == no_class

-- the number of the class that a value refers to, and that of no class where it refers to none
abbrev pub declared_class : Value → ℕ
declared_class (Ref class) = class
declared_class _ = no_class

-- the number of the superclass of a class, where it is declared
abbrev pub superclass_of : Heap → ℕ → ℕ
superclass_of heap class = declared_class (superclass_in (find_cell heap class))

-- the number behind the cell of that number: that of the next cell, or how many cells are used
abbrev pub next_number : Heap → ℕ → ℕ
next_number heap number = number + option_map_or cell_size (find_cell heap number) 0
