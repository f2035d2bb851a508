-- Rows of data lead to worlds of which something holds that each new cell and each word of the receiver allows.
use Rattle.std.proofs.Common.{◌≡◌, ℕ, List, [], ◌++◌, length, refl, Option, Some, None, Bool, true, false, cond}
use Rattle.std.specs.Fmt.{signed_decimal}
use Rattle.ns_code.specs.declared.program.CodeProgram.{CodeProgram}
use Rattle.ns_world.specs.declared.value.Value.{Value}
use Rattle.ns_world.specs.declared.value.Value.TheVariants as value
use Rattle.ns_world.specs.declared.ending.Fault.{Fault}
use Rattle.ns_world.specs.Cell.{Cell, shape_of, ObjectCell, ArrayCell, TextCell}
use Rattle.ns_world.specs.Heap.{heap_size, has_superclass, no_class}
use Rattle.ns_world.specs.World.{World, made, printed, stored}
use Rattle.ns_world.specs.declared.kernel_parts.DataRow.{DataRow}
use Rattle.ns_world.specs.declared.kernel_parts.DataRow.TheVariants as row
use Rattle.ns_kdata.specs.declared.arguments.Part.{Part}
use Rattle.ns_kdata.specs.Outcome.{Fails, made_as, making, unchanged, wrong_kind, out_of_range}
use Rattle.ns_kdata.specs.Arguments.{is_text, bytes_of, items_of, place_in, part_in, symbol_text, number_of}
use Rattle.ns_kdata.specs.Texts.{copied, bytes_in, byte_at_place, text_less}
use Rattle.ns_base.specs.Quoted.{quoted}
use Rattle.ns_kdata.specs.Rows.{put_at_place, new_array, conjunction, disjunction, item_at_place, symbol_less, boolean_text}
use Rattle.ns_kdata.specs.Datum.{row_outcome}
use Rattle.ns_world.specs.Seek.{may_be_first}
use Rattle.ns_world.specs.Later.{MayCome, IsLater}
use Rattle.ns_world.specs.laws.Leading.{later_same, later_made, later_printed, later_written}
use Rattle.ns_kdata.specs.Leading.{HoldsAfter, is_common}
use Rattle.std.specs.Prelude.{Result, Ok, Err, int_lt, pos, ◌||◌, ℤ, codes, replicate, unsigned_abs}

-- It holds of the world itself, with a common cell more that may come, and with more output.
pub record Allows (holds : World → Type 0) (world : World) : Type 0 where
  pub same : holds world
  pub cell : (after : World) (cell : Cell) → MayCome world.cells cell → is_common (shape_of cell) ≡ true → made world cell ≡ Some after → holds after
  pub output : (after : World) (bytes : List ℕ) → printed world bytes ≡ Some after → holds after

-- It holds where a word of an object is written.
abbrev pub Writes : (World → Type 0) → World → Value → Type 0
Writes holds world object = (word : ℕ) (item : Value) → holds (stored world object word item)

-- a later world is such a world
pub allows_later : (world : World) → Allows (IsLater world) world
allows_later world =
    record { same = later_same world; cell = λ after cell may common e. later_made world after cell may e; output = λ after bytes e. later_printed world after bytes e }

-- A row that writes to its receiver leads to a later world.
pub writes_later : (world : World) (object : Value) → Writes (IsLater world) world object
writes_later world (value.Ref at) word item = later_written world at word item
writes_later world value.Nil word item = later_same world
writes_later world value.True word item = later_same world
writes_later world value.False word item = later_same world
writes_later world (value.Int number) word item = later_same world
writes_later world (value.Sym sel) word item = later_same world
writes_later world (value.Kernel class) word item = later_same world

-- A row that changes nothing leads to a world that may come.
pub unchanged_leads : (holds : World → Type 0) (world : World) (may : Allows holds world) (r : Result Value Fault) →
    HoldsAfter holds (unchanged world r)
unchanged_leads holds world may (Ok value) = may.same
unchanged_leads holds world may (Err fault) = tt

-- A row that makes a common cell leads to a world that may come.
pub cell_leads : (holds : World → Type 0) (world : World) (may : Allows holds world) (cell : Cell) →
    has_superclass world.cells cell ≡ true → may_be_first world.cells (shape_of cell) ≡ false → is_common (shape_of cell) ≡ true →
    HoldsAfter holds (making world cell)
cell_leads holds world may cell super first common = found (made world cell) refl
  where
    found : (o : Option World) → made world cell ≡ o → HoldsAfter holds (made_as (heap_size world.cells) o)
    found (Some after) e = may.cell after cell (record { superclass = super; no_first = first }) common e
    found None e = tt

copied_leads : (holds : World → Type 0) (world : World) (may : Allows holds world) (bytes : List ℕ) (part : Result Part Fault) →
    HoldsAfter holds (copied world bytes part)
copied_leads holds world may bytes (Ok part) = cell_leads holds world may (TextCell (bytes_in bytes part)) refl refl refl
copied_leads holds world may bytes (Err fault) = tt

joined_leads : (holds : World → Type 0) (world : World) (may : Allows holds world) (bytes : List ℕ) (b : Bool) →
    HoldsAfter holds (cond b (making world (TextCell bytes)) (Fails wrong_kind))
joined_leads holds world may bytes true = cell_leads holds world may (TextCell bytes) refl refl refl
joined_leads holds world may bytes false = tt

sized_leads : (holds : World → Type 0) (world : World) (may : Allows holds world) (size : ℤ) (b : Bool) →
    HoldsAfter holds (cond b (Fails out_of_range) (making world (ArrayCell (replicate (unsigned_abs size) value.Nil))))
sized_leads holds world may size true = tt
sized_leads holds world may size false = cell_leads holds world may (ArrayCell (replicate (unsigned_abs size) value.Nil)) refl refl refl

array_leads : (holds : World → Type 0) (world : World) (may : Allows holds world) (size : Value) → HoldsAfter holds (new_array world size)
array_leads holds world may (value.Int size) = sized_leads holds world may size (int_lt size (pos 0) || int_lt (pos 64000000) size)
array_leads holds world may value.Nil = tt
array_leads holds world may value.True = tt
array_leads holds world may value.False = tt
array_leads holds world may (value.Sym sel) = tt
array_leads holds world may (value.Kernel class) = tt
array_leads holds world may (value.Ref at) = tt

put_leads : (holds : World → Type 0) (world : World) (may : Allows holds world) (array : Value) (place : Result ℕ Fault) (item : Value) →
    Writes holds world array → HoldsAfter holds (put_at_place world array place item)
put_leads holds world may array (Ok place) item has = has place item
put_leads holds world may array (Err fault) item has = tt

-- the rows of data write their receiver alone
pub data_leads :
    (holds : World → Type 0) (world : World) (may : Allows holds world) (code : CodeProgram) (r : DataRow) (receiver first second : Value) →
    Writes holds world receiver → HoldsAfter holds (row_outcome world code r receiver first second)
data_leads holds world may code row.Identical receiver first second has = may.same
data_leads holds world may code row.Equal receiver first second has = may.same
data_leads holds world may code row.IsNil receiver first second has = may.same
data_leads holds world may code row.NotNil receiver first second has = may.same
data_leads holds world may code row.KernelObject receiver first second has = may.same
data_leads holds world may code row.DoesNotUnderstand receiver first second has = tt
data_leads holds world may code row.NewObject receiver first second has = cell_leads holds world may (ObjectCell no_class []) refl refl refl
data_leads holds world may code row.NewArray receiver first second has = array_leads holds world may first
data_leads holds world may code row.NilPrint receiver first second has = cell_leads holds world may (TextCell (codes "nil")) refl refl refl
data_leads holds world may code row.Not receiver first second has = may.same
data_leads holds world may code row.BooleanPrint receiver first second has =
    cell_leads holds world may (TextCell (boolean_text receiver)) refl refl refl
data_leads holds world may code row.And receiver first second has = unchanged_leads holds world may (conjunction receiver first)
data_leads holds world may code row.Or receiver first second has = unchanged_leads holds world may (disjunction receiver first)
data_leads holds world may code row.IntegerPrint receiver first second has =
    cell_leads holds world may (TextCell (signed_decimal (number_of receiver))) refl refl refl
data_leads holds world may code row.TextSize receiver first second has = may.same
data_leads holds world may code row.TextAt receiver first second has =
    unchanged_leads holds world may (byte_at_place (bytes_of world.cells receiver) (place_in first (length (bytes_of world.cells receiver))))
data_leads holds world may code row.TextCopy receiver first second has =
    copied_leads holds world may (bytes_of world.cells receiver) (part_in first second (length (bytes_of world.cells receiver)))
data_leads holds world may code row.TextJoin receiver first second has =
    joined_leads holds world may (bytes_of world.cells receiver ++ bytes_of world.cells first) (is_text world.cells first)
data_leads holds world may code row.TextEqual receiver first second has = may.same
data_leads holds world may code row.TextLess receiver first second has =
    unchanged_leads holds world may (text_less world.cells receiver first)
data_leads holds world may code row.TextPrint receiver first second has =
    cell_leads holds world may (TextCell (quoted (bytes_of world.cells receiver))) refl refl refl
data_leads holds world may code row.SymbolSize receiver first second has = may.same
data_leads holds world may code row.SymbolText receiver first second has =
    cell_leads holds world may (TextCell (symbol_text code receiver)) refl refl refl
data_leads holds world may code row.SymbolPrint receiver first second has = cell_leads holds world may (TextCell (codes "#" ++ symbol_text code receiver)) refl refl refl
data_leads holds world may code row.SymbolLess receiver first second has = unchanged_leads holds world may (symbol_less code receiver first)
data_leads holds world may code row.ArraySize receiver first second has = may.same
data_leads holds world may code row.ArrayAt receiver first second has =
    unchanged_leads holds world may (item_at_place (items_of world.cells receiver) (place_in first (length (items_of world.cells receiver))))
data_leads holds world may code row.ArrayPut receiver first second has =
    put_leads holds world may receiver (place_in first (length (items_of world.cells receiver))) second has
data_leads holds world may code row.MessageSelector receiver first second has = may.same
data_leads holds world may code row.MessageArguments receiver first second has = may.same

-- so each leads to a later world
pub rows_lead_on : (world : World) (code : CodeProgram) (r : DataRow) (receiver first second : Value) →
    HoldsAfter (IsLater world) (row_outcome world code r receiver first second)
rows_lead_on world code r receiver first second =
    data_leads (IsLater world) world (allows_later world) code r receiver first second (writes_later world receiver)
