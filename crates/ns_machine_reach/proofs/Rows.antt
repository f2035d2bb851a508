-- The rows of the kernel stay within a set of cells: what they answer, make and write is in it.
use Rattle.std.proofs.Common.{◌≡◌, ℕ, ℤ, pos, List, [], ◌++◌, length, Option, Some, None, Bool, true, false, cond, refl, replicate}
use Rattle.std.specs.Prelude.{Result, Ok, Err, int_lt, ◌||◌, not, codes, unsigned_abs}
use Rattle.std.specs.Fmt.{signed_decimal}
use Rattle.std.specs.Str.{bytes_eq}
use Rattle.ns_code.specs.declared.program.CodeProgram.{CodeProgram}
use Rattle.ns_world.specs.declared.value.Value.{Value}
use Rattle.ns_world.specs.declared.value.Value.TheVariants.{Nil, True, False, Int, Sym, Kernel, Ref}
use Rattle.ns_world.specs.declared.ending.Fault.{Fault}
use Rattle.ns_world.specs.declared.cell.NewCell.{NewCell}
use Rattle.ns_world.specs.declared.cell.NewCell.TheVariants as new
use Rattle.ns_world.specs.Cell.{Cell, ObjectCell, ArrayCell, TextCell}
use Rattle.ns_world.specs.Heap.{Heap, heap_size, no_class}
use Rattle.ns_world.specs.World.{World, made, stored}
use Rattle.ns_kdata.specs.Outcome.{RowOutcome, Answers, Fails, making, made_as, unchanged, wrong_kind, out_of_range}
use Rattle.ns_kdata.specs.declared.arguments.Part.{Part}
use Rattle.ns_kdata.specs.Arguments.{items_of, shape_of_value, is_text, bytes_of, symbol_text, number_of, place_in, part_in}
use Rattle.ns_world.specs.Booleans.{truth}
use Rattle.ns_kdata.specs.Rows as rows
use Rattle.ns_kdata.specs.Texts as texts
use Rattle.ns_kdata.specs.Datum.{row_outcome}
use Rattle.ns_world.specs.declared.kernel_parts.DataRow.{DataRow}
use Rattle.ns_world.specs.declared.kernel_parts.DataRow.TheVariants as row
use Rattle.ns_moves.specs.Control.{Progress, in_world}
use Rattle.ns_machine_reach.specs.Within.{HasLater, In, AllIn, CellIn, Kept}
use Rattle.ns_machine_reach.proofs.Cells.{at_index, all_nil}
use Rattle.ns_machine_reach.proofs.Keeping.{NoFacet, made_kept, written_kept}
use Rattle.ns_machine_reach.proofs.Reading.{ShapeIn, value_shape_in, items_in}
use Rattle.ns_base.specs.Quoted.{quoted}

module _ (Has : ℕ → Type 0) (first : Progress) where
  -- A row's answer is in the set, and so is what it made and wrote.
  abbrev pub OutcomeIn : Progress → RowOutcome → Type 0
  OutcomeIn now (Answers value world) = In Has value × Kept Has first (in_world now world)
  OutcomeIn now (Fails fault) = Unit {0}

  abbrev pub AnswerIn : Result Value Fault → Type 0
  AnswerIn (Ok value) = In Has value
  AnswerIn (Err fault) = Unit {0}

  pub unchanged_in : (now : Progress) (answer : Result Value Fault) → Kept Has first now → AnswerIn answer → OutcomeIn now (unchanged now.world answer)
  unchanged_in now (Ok value) kept i = (i, kept)
  unchanged_in now (Err fault) kept i = tt

  pub making_in : (now : Progress) (cell : Cell) → HasLater Has first.world.cells → Kept Has first now → CellIn Has now.world.cells cell → NoFacet cell → OutcomeIn now (making now.world cell)
  making_in now cell later kept inside plain = by (made now.world cell) refl
    where
      by : (o : Option World) → made now.world cell ≡ o → OutcomeIn now (made_as (heap_size now.world.cells) o)
      by None e = tt
      by (Some world) e = made_kept Has first now cell world later e inside plain kept

  text_in : (now : Progress) (bytes : List ℕ) → HasLater Has first.world.cells → Kept Has first now → OutcomeIn now (making now.world (TextCell bytes))
  text_in now bytes later kept = making_in now (TextCell bytes) later kept tt (λ kind e. absurd (cc (e)))

  truth_in : (b : Bool) → In Has (truth b)
  truth_in true = tt
  truth_in false = tt

  only_true_in : (value : Value) → In Has (rows.only_true value)
  only_true_in True = tt
  only_true_in False = tt
  only_true_in Nil = tt
  only_true_in (Int number) = tt
  only_true_in (Sym sel) = tt
  only_true_in (Kernel class) = tt
  only_true_in (Ref at) = tt

  negation_in : (value : Value) → In Has (rows.negation value)
  negation_in True = tt
  negation_in False = tt
  negation_in Nil = tt
  negation_in (Int number) = tt
  negation_in (Sym sel) = tt
  negation_in (Kernel class) = tt
  negation_in (Ref at) = tt

  conjunction_in : (receiver value : Value) → AnswerIn (rows.conjunction receiver value)
  conjunction_in receiver True = only_true_in receiver
  conjunction_in receiver False = tt
  conjunction_in receiver Nil = tt
  conjunction_in receiver (Int number) = tt
  conjunction_in receiver (Sym sel) = tt
  conjunction_in receiver (Kernel class) = tt
  conjunction_in receiver (Ref at) = tt

  disjunction_in : (receiver value : Value) → AnswerIn (rows.disjunction receiver value)
  disjunction_in receiver True = tt
  disjunction_in receiver False = only_true_in receiver
  disjunction_in receiver Nil = tt
  disjunction_in receiver (Int number) = tt
  disjunction_in receiver (Sym sel) = tt
  disjunction_in receiver (Kernel class) = tt
  disjunction_in receiver (Ref at) = tt

  -- ---- new cells

  sized_in : (now : Progress) (size : ℤ) → HasLater Has first.world.cells → Kept Has first now → OutcomeIn now (rows.array_of_size now.world size)
  sized_in now size later kept = by (int_lt size (pos 0) || int_lt (pos 64000000) size)
    where
      by : (b : Bool) → OutcomeIn now (cond b (Fails out_of_range) (making now.world (ArrayCell (replicate (unsigned_abs size) Nil))))
      by true = tt
      by false = making_in now (ArrayCell (replicate (unsigned_abs size) Nil)) later kept (all_nil Has (unsigned_abs size)) (λ kind e. absurd (cc (e)))

  new_array_in : (now : Progress) (value : Value) → HasLater Has first.world.cells → Kept Has first now → OutcomeIn now (rows.new_array now.world value)
  new_array_in now (Int size) later kept = sized_in now size later kept
  new_array_in now Nil later kept = tt
  new_array_in now True later kept = tt
  new_array_in now False later kept = tt
  new_array_in now (Sym sel) later kept = tt
  new_array_in now (Kernel class) later kept = tt
  new_array_in now (Ref at) later kept = tt

  -- ---- texts

  byte_in : (bytes : List ℕ) (place : Result ℕ Fault) → AnswerIn (texts.byte_at_place bytes place)
  byte_in bytes (Ok place) = tt
  byte_in bytes (Err fault) = tt

  copied_in : (now : Progress) (bytes : List ℕ) (part : Result Part Fault) → HasLater Has first.world.cells → Kept Has first now → OutcomeIn now (texts.copied now.world bytes part)
  copied_in now bytes (Ok part) later kept = text_in now (texts.bytes_in bytes part) later kept
  copied_in now bytes (Err fault) later kept = tt

  join_in : (now : Progress) (text other : Value) → HasLater Has first.world.cells → Kept Has first now → OutcomeIn now (texts.text_join now.world text other)
  join_in now text other later kept = by (is_text now.world.cells other)
    where
      by : (b : Bool) → OutcomeIn now (cond b (making now.world (TextCell (bytes_of now.world.cells text ++ bytes_of now.world.cells other))) (Fails wrong_kind))
      by true = text_in now (bytes_of now.world.cells text ++ bytes_of now.world.cells other) later kept
      by false = tt

  equal_in : (heap : Heap) (text other : Value) → In Has (texts.text_equal heap text other)
  equal_in heap text other = by (is_text heap other) (bytes_eq (bytes_of heap text) (bytes_of heap other))
    where
      by : (b c : Bool) → In Has (cond b (truth c) (truth false))
      by true c = truth_in c
      by false c = tt

  less_in : (heap : Heap) (text other : Value) → AnswerIn (texts.text_less heap text other)
  less_in heap text other = by (is_text heap other) (texts.is_before (bytes_of heap text) (bytes_of heap other))
    where
      by : (b c : Bool) → AnswerIn (cond b (Ok (truth c)) (Err wrong_kind))
      by true c = truth_in c
      by false c = tt

  symbol_less_in : (code : CodeProgram) (symbol value : Value) → AnswerIn (rows.symbol_less code symbol value)
  symbol_less_in code symbol (Sym other) = truth_in (texts.is_before (symbol_text code symbol) (symbol_text code (Sym other)))
  symbol_less_in code symbol Nil = tt
  symbol_less_in code symbol True = tt
  symbol_less_in code symbol False = tt
  symbol_less_in code symbol (Int number) = tt
  symbol_less_in code symbol (Kernel class) = tt
  symbol_less_in code symbol (Ref at) = tt

  -- ---- arrays and messages

  item_in : (items : List Value) (place : Result ℕ Fault) → AllIn Has items → AnswerIn (rows.item_at_place items place)
  item_in items (Ok place) all = at_index Has items place all
  item_in items (Err fault) all = tt

  pub stored_in : (now : Progress) (array : Value) (place : ℕ) (value : Value) → Kept Has first now → In Has array → In Has value → Kept Has first (in_world now (stored now.world array place value))
  stored_in now (Ref at) place value kept i v = written_kept Has first now at place value kept i v
  stored_in now Nil place value kept i v = kept
  stored_in now True place value kept i v = kept
  stored_in now False place value kept i v = kept
  stored_in now (Int number) place value kept i v = kept
  stored_in now (Sym sel) place value kept i v = kept
  stored_in now (Kernel class) place value kept i v = kept

  put_in : (now : Progress) (array : Value) (place : Result ℕ Fault) (value : Value) → Kept Has first now → In Has array → In Has value → OutcomeIn now (rows.put_at_place now.world array place value)
  put_in now array (Ok place) value kept i v = (v, stored_in now array place value kept i v)
  put_in now array (Err fault) value kept i v = tt

  selector_in_set : (shape : NewCell) → In Has (rows.selector_in shape)
  selector_in_set (new.Message sel args) = tt
  selector_in_set (new.Object class words) = tt
  selector_in_set (new.Class decl base encl holder over) = tt
  selector_in_set (new.Block body env home receiver holder) = tt
  selector_in_set (new.Environment parent locals) = tt
  selector_in_set (new.Array size) = tt
  selector_in_set (new.Text bytes) = tt
  selector_in_set (new.Facet kind) = tt
  selector_in_set (new.Mirror mirrored) = tt

  arguments_in_set : (shape : NewCell) → ShapeIn Has shape → In Has (rows.arguments_in shape)
  arguments_in_set (new.Message sel args) s = s
  arguments_in_set (new.Object class words) s = tt
  arguments_in_set (new.Class decl base encl holder over) s = tt
  arguments_in_set (new.Block body env home receiver holder) s = tt
  arguments_in_set (new.Environment parent locals) s = tt
  arguments_in_set (new.Array size) s = tt
  arguments_in_set (new.Text bytes) s = tt
  arguments_in_set (new.Facet kind) s = tt
  arguments_in_set (new.Mirror mirrored) s = tt

  -- ---- the rows of data

  pub data_in : (code : CodeProgram) (now : Progress) (about : DataRow) (receiver one two : Value) → HasLater Has first.world.cells → Kept Has first now → In Has receiver → In Has one → In Has two → OutcomeIn now (row_outcome now.world code about receiver one two)
  data_in code now row.Identical receiver one two later kept r a b = (truth_in (rows.same_value receiver one), kept)
  data_in code now row.Equal receiver one two later kept r a b = (truth_in (rows.same_value receiver one), kept)
  data_in code now row.IsNil receiver one two later kept r a b = (truth_in (rows.is_nil receiver), kept)
  data_in code now row.NotNil receiver one two later kept r a b = (truth_in (not (rows.is_nil receiver)), kept)
  data_in code now row.KernelObject receiver one two later kept r a b = (tt, kept)
  data_in code now row.DoesNotUnderstand receiver one two later kept r a b = tt
  data_in code now row.NewObject receiver one two later kept r a b = making_in now (ObjectCell no_class []) later kept (later.none, tt) (λ kind e. absurd (cc (e)))
  data_in code now row.NewArray receiver one two later kept r a b = new_array_in now one later kept
  data_in code now row.NilPrint receiver one two later kept r a b = text_in now (codes "nil") later kept
  data_in code now row.Not receiver one two later kept r a b = (negation_in receiver, kept)
  data_in code now row.BooleanPrint receiver one two later kept r a b = text_in now (rows.boolean_text receiver) later kept
  data_in code now row.And receiver one two later kept r a b = unchanged_in now (rows.conjunction receiver one) kept (conjunction_in receiver one)
  data_in code now row.Or receiver one two later kept r a b = unchanged_in now (rows.disjunction receiver one) kept (disjunction_in receiver one)
  data_in code now row.IntegerPrint receiver one two later kept r a b = text_in now (signed_decimal (number_of receiver)) later kept
  data_in code now row.TextSize receiver one two later kept r a b = (tt, kept)
  data_in code now row.TextAt receiver one two later kept r a b =
      unchanged_in now (texts.text_at now.world.cells receiver one) kept (byte_in (bytes_of now.world.cells receiver) (place_in one (length (bytes_of now.world.cells receiver))))
  data_in code now row.TextCopy receiver one two later kept r a b = copied_in now (bytes_of now.world.cells receiver) (part_in one two (length (bytes_of now.world.cells receiver))) later kept
  data_in code now row.TextJoin receiver one two later kept r a b = join_in now receiver one later kept
  data_in code now row.TextEqual receiver one two later kept r a b = (equal_in now.world.cells receiver one, kept)
  data_in code now row.TextLess receiver one two later kept r a b = unchanged_in now (texts.text_less now.world.cells receiver one) kept (less_in now.world.cells receiver one)
  data_in code now row.TextPrint receiver one two later kept r a b = text_in now (quoted (bytes_of now.world.cells receiver)) later kept
  data_in code now row.SymbolSize receiver one two later kept r a b = (tt, kept)
  data_in code now row.SymbolText receiver one two later kept r a b = text_in now (symbol_text code receiver) later kept
  data_in code now row.SymbolPrint receiver one two later kept r a b = text_in now (codes "#" ++ symbol_text code receiver) later kept
  data_in code now row.SymbolLess receiver one two later kept r a b = unchanged_in now (rows.symbol_less code receiver one) kept (symbol_less_in code receiver one)
  data_in code now row.ArraySize receiver one two later kept r a b = (tt, kept)
  data_in code now row.ArrayAt receiver one two later kept r a b =
      unchanged_in now (rows.array_at now.world.cells receiver one) kept
      (item_in (items_of now.world.cells receiver) (place_in one (length (items_of now.world.cells receiver))) (items_in Has now.world.cells receiver kept.closed r))
  data_in code now row.ArrayPut receiver one two later kept r a b = put_in now receiver (place_in one (length (items_of now.world.cells receiver))) two kept r b
  data_in code now row.MessageSelector receiver one two later kept r a b = (selector_in_set (shape_of_value now.world.cells receiver), kept)
  data_in code now row.MessageArguments receiver one two later kept r a b =
      (arguments_in_set (shape_of_value now.world.cells receiver) (value_shape_in Has now.world.cells receiver kept.closed r), kept)
