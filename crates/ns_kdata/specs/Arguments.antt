-- What a row reads from its receiver and its arguments.
use Rattle.std.specs.Prelude.{ℕ, ◌-◌, ◌*◌, take, drop, ℤ, pos, ◌-ℤ◌, unsigned_abs, int_lt, ◌||◌, List, [], Option, Some, Result, Ok, Err, Bool, true, false, IsSome, if◌then◌else◌}
use Rattle.std.specs.List.{slice_index_or}
use Rattle.ns_code.specs.declared.program.CodeProgram.{CodeProgram}
use Rattle.ns_code.specs.Selector.{selector_text}
use Rattle.ns_world.specs.declared.value.Value.{Value}
use Rattle.ns_world.specs.declared.value.Value.TheVariants.{Nil, Int, Sym, Ref}
use Rattle.ns_world.specs.declared.ending.Fault.{Fault}
use Rattle.ns_world.specs.declared.cell.NewCell.{NewCell}
use Rattle.ns_world.specs.declared.cell.NewCell.TheVariants as new
use Rattle.ns_world.specs.declared.head.Head.{Head}
use Rattle.ns_world.specs.declared.head.Head.TheVariants as head
use Rattle.ns_world.specs.Cell.{Cell, ArrayCell}
use Rattle.ns_world.specs.Heap.{Heap, find_cell, shape_at, bytes_at}
use Rattle.ns_kdata.specs.declared.arguments.Part.{Part}
use Rattle.ns_kdata.specs.Outcome.{wrong_kind, out_of_range}

-- A reference names a cell.
abbrev pub CellIsThere : Heap → Value → Type 0
CellIsThere heap (Ref at) = IsSome (find_cell heap at)
CellIsThere heap value = Unit {0}

-- the argument of that place from 0, nil where there is none
abbrev pub argument : List Value → ℕ → Value
argument args place = slice_index_or args place Nil

-- the kind and the sizes of the cell that a value refers to; those of a mirror of nil where it refers to none
abbrev pub shape_of_value : Heap → Value → NewCell
shape_of_value heap (Ref at) = shape_at heap at
shape_of_value heap value = new.Mirror Nil

-- whether a cell is a text, an array, a message
abbrev pub is_text_shape : NewCell → Bool
is_text_shape (new.Text bytes) = true
is_text_shape cell = false

abbrev pub is_array_shape : NewCell → Bool
is_array_shape (new.Array size) = true
is_array_shape cell = false

abbrev pub is_message_shape : NewCell → Bool
is_message_shape (new.Message sel args) = true
is_message_shape cell = false

-- how many bytes a text has, how many elements an array, 0 where the cell is another
abbrev pub text_size_in : NewCell → ℕ
text_size_in (new.Text bytes) = bytes
text_size_in cell = 0

abbrev pub array_size_in : NewCell → ℕ
array_size_in (new.Array size) = size
array_size_in cell = 0

-- the same by a cell's head
abbrev pub is_text_head : Head → Bool
is_text_head (head.Text bytes) = true
is_text_head cell = false

abbrev pub is_array_head : Head → Bool
is_array_head (head.Array size) = true
is_array_head cell = false

abbrev pub is_message_head : Head → Bool
is_message_head (head.Message sel) = true
is_message_head cell = false

abbrev pub text_size_at : Head → ℕ
text_size_at (head.Text bytes) = bytes
text_size_at cell = 0

abbrev pub array_size_at : Head → ℕ
array_size_at (head.Array size) = size
array_size_at cell = 0

-- whether a value is a String, an Array, a Message
abbrev pub is_text : Heap → Value → Bool
is_text heap value = is_text_shape (shape_of_value heap value)

abbrev pub is_array : Heap → Value → Bool
is_array heap value = is_array_shape (shape_of_value heap value)

abbrev pub is_message : Heap → Value → Bool
is_message heap value = is_message_shape (shape_of_value heap value)

-- the bytes of a String, none of any other value
abbrev pub bytes_of : Heap → Value → List ℕ
bytes_of heap (Ref at) = bytes_at heap at
bytes_of heap value = []

-- eight bytes of a String, the row of that number
abbrev pub row_of : Heap → Value → ℕ → List ℕ
row_of heap value row = take 8 (drop (8 * row) (bytes_of heap value))

-- the elements of an array, none where the cell is another
abbrev pub array_items : Option Cell → List Value
array_items (Some (ArrayCell items)) = items
array_items cell = []

-- the elements of an Array, none of any other value
abbrev pub items_of : Heap → Value → List Value
items_of heap (Ref at) = array_items (find_cell heap at)
items_of heap value = []

-- the text of a Symbol
abbrev pub symbol_text : CodeProgram → Value → List ℕ
symbol_text code (Sym sel) = selector_text code sel.0
symbol_text code value = []

-- the number of an Integer
abbrev pub number_of : Value → ℤ
number_of (Int number) = number
number_of value = pos 0

-- a place counted from 1, as one from 0; OutOfRange where it is none of so many
abbrev pub place_of_number : ℤ → ℕ → Result ℕ Fault
place_of_number number size =
    if int_lt number (pos 1) || int_lt (pos size) number then Err out_of_range else Ok (unsigned_abs number - 1)

-- the place that an argument names; WrongKind where it is no Integer
abbrev pub place_in : Value → ℕ → Result ℕ Fault
place_in (Int number) size = place_of_number number size
place_in value size = Err wrong_kind

-- the part from one place to another, both counted from 1; it is empty where the last place is the one
-- before the first
abbrev pub part_of_numbers : ℤ → ℤ → ℕ → Result Part Fault
part_of_numbers first last size =
    if int_lt first (pos 1) || (int_lt (pos size) last || int_lt last (first -ℤ pos 1))
    then Err out_of_range
    else Ok (record { start = unsigned_abs (first -ℤ pos 1); count = unsigned_abs (last -ℤ (first -ℤ pos 1)) })

-- the part that two arguments name; WrongKind where one of them is no Integer
abbrev pub part_in : Value → Value → ℕ → Result Part Fault
part_in (Int first) (Int last) size = part_of_numbers first last size
part_in first last size = Err wrong_kind
