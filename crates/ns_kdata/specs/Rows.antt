-- The rows of all values, of Object class, Array class, UndefinedObject, Boolean, Integer, Symbol, Array and Message.
use Rattle.std.specs.Prelude.{ℕ, ℤ, pos, int_lt, unsigned_abs, ◌||◌, List, [], ◌++◌, length, replicate, codes, Bool, true, false, ◌==◌, Result, Ok, Err, if◌then◌else◌}
use Rattle.std.specs.List.{slice_index_or}
use Rattle.std.specs.Ordering.{int_eq}
use Rattle.std.specs.Fmt.{signed_decimal}
use Rattle.ns_code.specs.declared.program.CodeProgram.{CodeProgram}
use Rattle.ns_world.specs.declared.value.Value.{Value}
use Rattle.ns_world.specs.declared.value.Value.TheVariants.{Nil, True, False, Int, Sym, Kernel, Ref}
use Rattle.ns_world.specs.declared.value.KClass.{KClass}
use Rattle.ns_world.specs.declared.value.KClass.TheVariants as class
use Rattle.ns_world.specs.declared.ending.Fault.{Fault}
use Rattle.ns_world.specs.declared.ending.Fault.TheVariants.{Kind}
use Rattle.ns_world.specs.declared.ending.Kind.TheVariants as kind
use Rattle.ns_world.specs.declared.cell.NewCell.{NewCell}
use Rattle.ns_world.specs.declared.cell.NewCell.TheVariants as new
use Rattle.ns_world.specs.Cell.{ObjectCell, ArrayCell, TextCell}
use Rattle.ns_world.specs.Heap.{Heap, no_class}
use Rattle.ns_world.specs.World.{World, stored}
use Rattle.ns_kdata.specs.Outcome.{RowOutcome, Answers, Fails, making, wrong_kind, out_of_range}
use Rattle.ns_kdata.specs.Arguments.{shape_of_value, items_of, is_message, symbol_text, number_of, place_in}
use Rattle.ns_world.specs.Booleans.{truth}
use Rattle.ns_kdata.specs.Texts.{is_before}

-- whether two kernel classes are the same
abbrev pub same_kernel_class : KClass → KClass → Bool
same_kernel_class class.Object class.Object = true
same_kernel_class class.Array class.Array = true
same_kernel_class one other = false

-- whether two values are the same: the same cell for references
abbrev pub same_value : Value → Value → Bool
same_value Nil Nil = true
same_value True True = true
same_value False False = true
same_value (Int one) (Int other) = int_eq one other
same_value (Sym one) (Sym other) = one.0 == other.0
same_value (Kernel one) (Kernel other) = same_kernel_class one other
same_value (Ref one) (Ref other) = one == other
same_value one other = false

-- whether a value is nil
abbrev pub is_nil : Value → Bool
is_nil Nil = true
is_nil value = false

-- `doesNotUnderstand:` of the kernel has no answer
abbrev pub not_understood : Heap → Value → Fault
not_understood heap message = if is_message heap message then Kind kind.NotUnderstood else wrong_kind

-- `new` of Object class: an object of no declared class
abbrev pub new_object : World → RowOutcome
new_object world = making world (ObjectCell no_class [])

-- a new array of so many nils, at most 64,000,000
abbrev pub array_of_size : World → ℤ → RowOutcome
array_of_size world size =
    if int_lt size (pos 0) || int_lt (pos 64000000) size
    then Fails out_of_range
    else making world (ArrayCell (replicate (unsigned_abs size) Nil))

-- `new:` of Array class
abbrev pub new_array : World → Value → RowOutcome
new_array world (Int size) = array_of_size world size
new_array world value = Fails wrong_kind

-- `printString` of nil, of a boolean and of an Integer
abbrev pub nil_print : World → RowOutcome
nil_print world = making world (TextCell (codes "nil"))

abbrev pub boolean_text : Value → List ℕ
boolean_text True = codes "true"
boolean_text value = codes "false"

abbrev pub boolean_print : World → Value → RowOutcome
boolean_print world value = making world (TextCell (boolean_text value))

abbrev pub integer_print : World → Value → RowOutcome
integer_print world value = making world (TextCell (signed_decimal (number_of value)))

-- `not`
abbrev pub negation : Value → Value
negation True = False
negation value = True

-- true where a value is true, else false
abbrev pub only_true : Value → Value
only_true True = True
only_true value = False

-- `&`: the receiver where the argument is true
abbrev pub conjunction : Value → Value → Result Value Fault
conjunction receiver True = Ok (only_true receiver)
conjunction receiver False = Ok False
conjunction receiver value = Err wrong_kind

-- `|`: the receiver where the argument is false
abbrev pub disjunction : Value → Value → Result Value Fault
disjunction receiver True = Ok True
disjunction receiver False = Ok (only_true receiver)
disjunction receiver value = Err wrong_kind

-- `size` of a Symbol
abbrev pub symbol_size : CodeProgram → Value → Value
symbol_size code symbol = Int (pos (length (symbol_text code symbol)))

-- `asString`
abbrev pub symbol_string : World → CodeProgram → Value → RowOutcome
symbol_string world code symbol = making world (TextCell (symbol_text code symbol))

-- `printString` of a Symbol: its text with `#` before
abbrev pub symbol_print : World → CodeProgram → Value → RowOutcome
symbol_print world code symbol = making world (TextCell (codes "#" ++ symbol_text code symbol))

-- `<` of a Symbol
abbrev pub symbol_less : CodeProgram → Value → Value → Result Value Fault
symbol_less code symbol (Sym other) = Ok (truth (is_before (symbol_text code symbol) (symbol_text code (Sym other))))
symbol_less code symbol value = Err wrong_kind

-- `size` of an Array
abbrev pub array_size : Heap → Value → Value
array_size heap array = Int (pos (length (items_of heap array)))

-- the element of a place, or the fault of the place
abbrev pub item_at_place : List Value → Result ℕ Fault → Result Value Fault
item_at_place items (Ok place) = Ok (slice_index_or items place Nil)
item_at_place items (Err fault) = Err fault

-- `at:` of an Array
abbrev pub array_at : Heap → Value → Value → Result Value Fault
array_at heap array place = item_at_place (items_of heap array) (place_in place (length (items_of heap array)))

-- the value, stored at a place, or the fault of the place
abbrev pub put_at_place : World → Value → Result ℕ Fault → Value → RowOutcome
put_at_place world array (Ok place) value = Answers value (stored world array place value)
put_at_place world array (Err fault) value = Fails fault

-- `at:put:` of an Array
abbrev pub array_put : World → Value → Value → Value → RowOutcome
array_put world array place value = put_at_place world array (place_in place (length (items_of world.cells array))) value

-- what a message holds, nil where the cell is another
abbrev pub selector_in : NewCell → Value
selector_in (new.Message sel args) = Sym sel
selector_in cell = Nil

abbrev pub arguments_in : NewCell → Value
arguments_in (new.Message sel args) = args
arguments_in cell = Nil

-- `selector` and `arguments`
abbrev pub message_selector : Heap → Value → Value
message_selector heap message = selector_in (shape_of_value heap message)

abbrev pub message_arguments : Heap → Value → Value
message_arguments heap message = arguments_in (shape_of_value heap message)
