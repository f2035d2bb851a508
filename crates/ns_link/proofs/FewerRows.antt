-- The rows of the kernel read no limit on steps.
use Rattle.std.proofs.Common.{◌≡◌, ℕ, ◌+◌, ℤ, List, [], ◌∷◌, ◌++◌, length, replicate, refl, ap, ◌∙◌, Option, Some, None, Bool, true, false, cond}
use Rattle.std.specs.Prelude.{pos, codes, ◌==◌, ◌||◌, int_lt, unsigned_abs, nat_le, nat_lt, Result, Ok, Err}
use Rattle.std.specs.Fmt.{signed_decimal}
use Rattle.ns_base.specs.declared.selector.Sel.{Sel}
use Rattle.ns_code.specs.declared.program.CodeProgram.{CodeProgram}
use Rattle.ns_code.specs.Selector.{selector_text, selector_arity}
use Rattle.ns_world.specs.declared.value.Value.{Value}
use Rattle.ns_world.specs.declared.value.Value.TheVariants as value
use Rattle.ns_world.specs.declared.cell.NewCell.{NewCell}
use Rattle.ns_world.specs.declared.cell.NewCell.TheVariants as new
use Rattle.ns_world.specs.declared.ending.Fault.{Fault}
use Rattle.ns_world.specs.declared.ending.Ending.{Ending}
use Rattle.ns_world.specs.declared.ending.Ending.TheVariants.{Limit}
use Rattle.ns_world.specs.declared.ending.Fault.TheVariants as fault
use Rattle.ns_world.specs.declared.ending.Kind.TheVariants.{FixedSlot, WrongArity, WrongKind}
use Rattle.ns_world.specs.declared.ending.LimitKind.{LimitKind}
use Rattle.ns_world.specs.declared.ending.LimitKind.TheVariants.{Cells, Depth}
use Rattle.ns_world.specs.Cell.{Cell, ArrayCell, TextCell, MirrorCell, ObjectCell, cell_size}
use Rattle.ns_world.specs.Heap.{heap_size, no_class, chain_of, cell_number}
use Rattle.ns_world.specs.Starts.{class_name_of}
use Rattle.ns_world.specs.World.{World, made, entered, printed, stored}
use Rattle.ns_classes.specs.declared.apply.MakeFault.{MakeFault}
use Rattle.ns_classes.specs.Apply.{class_fault, class_cell}
use Rattle.ns_kint.specs.Integer.{integer}
use Rattle.ns_world.specs.declared.kernel_parts.DataRow.{DataRow}
use Rattle.ns_world.specs.declared.kernel_parts.DataRow.TheVariants as data_row
use Rattle.ns_kdata.specs.declared.arguments.Part.{Part}
use Rattle.ns_kdata.specs.Outcome.{RowOutcome, Answers, Fails, made_as, making, unchanged, wrong_kind, out_of_range}
use Rattle.ns_kdata.specs.Arguments.{argument, number_of, symbol_text, shape_of_value, is_text, bytes_of, is_array, items_of, place_in, part_in}
use Rattle.ns_kdata.specs.Texts.{bytes_in, copied, text_at, text_less}
use Rattle.ns_base.specs.Quoted.{quoted}
use Rattle.ns_kdata.specs.Rows.{conjunction, disjunction, boolean_text, symbol_less, array_at, put_at_place, new_array, array_of_size}
use Rattle.ns_world.specs.declared.kernel_parts.FacetRow.{FacetRow}
use Rattle.ns_world.specs.declared.kernel_parts.FacetRow.TheVariants as facet
use Rattle.ns_facets.specs.Board.{board_at, board_put}
use Rattle.ns_facets.specs.Console.{printed_as, printed_bytes, printed_text, printing}
use Rattle.ns_facets.specs.Facet.{board_after}
use Rattle.ns_world.specs.declared.kernel_parts.MirrorRow.{MirrorRow}
use Rattle.ns_world.specs.declared.kernel_parts.MirrorRow.TheVariants as mirror_row
use Rattle.ns_mirror.specs.declared.slots.SlotPlace.{SlotPlace}
use Rattle.ns_mirror.specs.Looking.{mirrored, object_class}
use Rattle.ns_mirror.specs.Naming.{class_text}
use Rattle.ns_mirror.specs.Slots.{slot_names_along, slot, slot_of, slot_put, write_slot}
use Rattle.ns_mirror.specs.Selectors.{public_selectors, methods_of_shape}
use Rattle.ns_mirror.specs.declared.row.Mirrored.{Mirrored}
use Rattle.ns_mirror.specs.declared.row.Mirrored.TheVariants.{Answer, Perform as MirrorPerform}
use Rattle.ns_mirror.specs.Mirror.{Reflected, Reflects, Refuses, reflected, perform, performed, performed_with, mirror}
use Rattle.ns_world.specs.declared.kernel_row.Row.{Row}
use Rattle.ns_world.specs.declared.kernel_row.Row.TheVariants as row
use Rattle.ns_moves.specs.declared.site.Site.{Site}
use Rattle.ns_moves.specs.Control.{Progress, in_world, After, Halts, Control, Now, Evaluate, Begin, charged, halts, fails}
use Rattle.ns_moves.specs.Classes.{class_made, mixed}
use Rattle.ns_moves.specs.Blocks.{has_arguments, turns_of, method_begun, value_with_arguments}
use Rattle.ns_world.specs.declared.kernel_parts.KMethod.{KMethod}
use Rattle.ns_kcode.specs.Rows.{beginning}
use Rattle.ns_moves.specs.Kernel.{outcome_reached, answer_reached, reflected_reached, facet_reached, data_reached, row_reached}
use Rattle.ns_link.specs.Fewer.{world_to, to_steps, maybe_to, after_to, control_to}

module _ (k : ℕ) where
  -- ---- charges

  pub made_to : (world : World) (cell : Cell) → made (world_to k world) cell ≡ maybe_to k (made world cell)
  made_to world cell = tested (nat_le (heap_size world.cells + cell_size cell) world.limits.cells)
    where
      next : World
      next = record world { cells = cell ∷ world.cells }

      tested : (b : Bool) → cond b (Some (world_to k next)) None ≡ maybe_to k (cond b (Some next) None)
      tested true = refl
      tested false = refl

  pub entered_to : (world : World) → entered (world_to k world) ≡ maybe_to k (entered world)
  entered_to world = tested (nat_lt world.depth world.limits.depth)
    where
      next : World
      next = record world { depth = world.depth + 1 }

      tested : (b : Bool) → cond b (Some (world_to k next)) None ≡ maybe_to k (cond b (Some next) None)
      tested true = refl
      tested false = refl

  printed_to : (world : World) (bytes : List ℕ) → printed (world_to k world) bytes ≡ maybe_to k (printed world bytes)
  printed_to world bytes = tested (nat_le (length world.output + length bytes) world.limits.out)
    where
      next : World
      next = record world { output = world.output ++ bytes }

      tested : (b : Bool) → cond b (Some (world_to k next)) None ≡ maybe_to k (cond b (Some next) None)
      tested true = refl
      tested false = refl

  -- a charge of anything but a step
  pub charged_to : {A : Type 0} (to : A → A) (stop : Ending → Progress → A) (limit : LimitKind) (o' o : Option World) (p : Progress)
      (go' go : Progress → A) → o' ≡ maybe_to k o → stop (Limit limit) (to_steps k p) ≡ to (stop (Limit limit) p)
      → ((q : Progress) → go' (to_steps k q) ≡ to (go q)) → charged stop limit o' (to_steps k p) go' ≡ to (charged stop limit o p go)
  charged_to to stop limit o' o p go' go e stops goes =
      ap (λ o. charged stop limit o (to_steps k p) go') e ∙ cases o
    where
      cases : (o : Option World) → charged stop limit (maybe_to k o) (to_steps k p) go' ≡ to (charged stop limit o p go)
      cases (Some world) = goes (in_world p world)
      cases None = stops

  -- ---- outcomes

  abbrev outcome_to : RowOutcome → RowOutcome
  outcome_to (Answers value world) = Answers value (world_to k world)
  outcome_to (Fails fault) = Fails fault

  making_to : (world : World) (cell : Cell) → making (world_to k world) cell ≡ outcome_to (making world cell)
  making_to world cell = ap (made_as (heap_size world.cells)) (made_to world cell) ∙ cases (made world cell)
    where
      cases : (o : Option World) → made_as (heap_size world.cells) (maybe_to k o) ≡ outcome_to (made_as (heap_size world.cells) o)
      cases (Some next) = refl
      cases None = refl

  unchanged_to : (world : World) (result : Result Value Fault) → unchanged (world_to k world) result ≡ outcome_to (unchanged world result)
  unchanged_to world (Ok value) = refl
  unchanged_to world (Err fault) = refl

  pub stored_to : (world : World) (object : Value) (word : ℕ) (new : Value)
      → stored (world_to k world) object word new ≡ world_to k (stored world object word new)
  stored_to world value.Nil word new = refl
  stored_to world value.True word new = refl
  stored_to world value.False word new = refl
  stored_to world (value.Int number) word new = refl
  stored_to world (value.Sym sel) word new = refl
  stored_to world (value.Kernel class) word new = refl
  stored_to world (value.Ref at) word new = refl

  either_to : (b : Bool) (x' x y : RowOutcome) → x' ≡ outcome_to x → cond b x' (outcome_to y) ≡ outcome_to (cond b x y)
  either_to true x' x y e = e
  either_to false x' x y e = refl

  size_to : (world : World) (size : ℤ) → array_of_size (world_to k world) size ≡ outcome_to (array_of_size world size)
  size_to world size = tested (int_lt size (pos 0) || int_lt (pos 64000000) size)
    where
      cell : Cell
      cell = ArrayCell (replicate (unsigned_abs size) value.Nil)

      tested : (b : Bool) → cond b (Fails out_of_range) (making (world_to k world) cell) ≡ outcome_to (cond b (Fails out_of_range) (making world cell))
      tested true = refl
      tested false = making_to world cell

  array_to : (world : World) (size : Value) → new_array (world_to k world) size ≡ outcome_to (new_array world size)
  array_to world value.Nil = refl
  array_to world value.True = refl
  array_to world value.False = refl
  array_to world (value.Int number) = size_to world number
  array_to world (value.Sym sel) = refl
  array_to world (value.Kernel class) = refl
  array_to world (value.Ref at) = refl

  copied_to : (world : World) (bytes : List ℕ) (part : Result Part Fault) → copied (world_to k world) bytes part ≡ outcome_to (copied world bytes part)
  copied_to world bytes (Ok part) = making_to world (TextCell (bytes_in bytes part))
  copied_to world bytes (Err fault) = refl

  put_to : (world : World) (array : Value) (place : Result ℕ Fault) (new : Value)
      → put_at_place (world_to k world) array place new ≡ outcome_to (put_at_place world array place new)
  put_to world array (Ok place) new = ap (Answers new) (stored_to world array place new)
  put_to world array (Err fault) new = refl

  pub reached_to : (outcome : RowOutcome) (site : Site) (p : Progress)
      → outcome_reached (outcome_to outcome) site (to_steps k p) ≡ control_to k (outcome_reached outcome site p)
  reached_to (Answers value world) site p = refl
  reached_to (Fails fault) site p = refl

  -- an outcome that is the same
  by : (outcome' outcome : RowOutcome) (site : Site) (p : Progress) → outcome' ≡ outcome_to outcome
      → outcome_reached outcome' site (to_steps k p) ≡ control_to k (outcome_reached outcome site p)
  by outcome' outcome site p e = ap (λ o. outcome_reached o site (to_steps k p)) e ∙ reached_to outcome site p

  data_to : (code : CodeProgram) (about : DataRow) (receiver : Value) (arguments : List Value) (site : Site) (p : Progress)
      → data_reached code about receiver arguments site (to_steps k p) ≡ control_to k (data_reached code about receiver arguments site p)
  data_to code data_row.Identical receiver arguments site p = refl
  data_to code data_row.Equal receiver arguments site p = refl
  data_to code data_row.IsNil receiver arguments site p = refl
  data_to code data_row.NotNil receiver arguments site p = refl
  data_to code data_row.KernelObject receiver arguments site p = refl
  data_to code data_row.DoesNotUnderstand receiver arguments site p = refl
  data_to code data_row.NewObject receiver arguments site p = by _ _ site p (making_to p.world (ObjectCell no_class []))
  data_to code data_row.NewArray receiver arguments site p = by _ _ site p (array_to p.world (argument arguments 0))
  data_to code data_row.NilPrint receiver arguments site p = by _ _ site p (making_to p.world (TextCell (codes "nil")))
  data_to code data_row.Not receiver arguments site p = refl
  data_to code data_row.BooleanPrint receiver arguments site p = by _ _ site p (making_to p.world (TextCell (boolean_text receiver)))
  data_to code data_row.And receiver arguments site p = by _ _ site p (unchanged_to p.world (conjunction receiver (argument arguments 0)))
  data_to code data_row.Or receiver arguments site p = by _ _ site p (unchanged_to p.world (disjunction receiver (argument arguments 0)))
  data_to code data_row.IntegerPrint receiver arguments site p = by _ _ site p (making_to p.world (TextCell (signed_decimal (number_of receiver))))
  data_to code data_row.TextSize receiver arguments site p = refl
  data_to code data_row.TextAt receiver arguments site p = by _ _ site p (unchanged_to p.world (text_at p.world.cells receiver (argument arguments 0)))
  data_to code data_row.TextCopy receiver arguments site p = by _ _ site p (copied_to p.world (bytes_of p.world.cells receiver) (part_in (argument arguments 0) (argument arguments 1) (length (bytes_of p.world.cells receiver))))
  data_to code data_row.TextJoin receiver arguments site p = by _ _ site p (either_to (is_text p.world.cells (argument arguments 0)) _ _ (Fails wrong_kind) (making_to p.world (TextCell (bytes_of p.world.cells receiver ++ bytes_of p.world.cells (argument arguments 0)))))
  data_to code data_row.TextEqual receiver arguments site p = refl
  data_to code data_row.TextLess receiver arguments site p = by _ _ site p (unchanged_to p.world (text_less p.world.cells receiver (argument arguments 0)))
  data_to code data_row.TextPrint receiver arguments site p = by _ _ site p (making_to p.world (TextCell (quoted (bytes_of p.world.cells receiver))))
  data_to code data_row.SymbolSize receiver arguments site p = refl
  data_to code data_row.SymbolText receiver arguments site p = by _ _ site p (making_to p.world (TextCell (symbol_text code receiver)))
  data_to code data_row.SymbolPrint receiver arguments site p = by _ _ site p (making_to p.world (TextCell (codes "#" ++ symbol_text code receiver)))
  data_to code data_row.SymbolLess receiver arguments site p = by _ _ site p (unchanged_to p.world (symbol_less code receiver (argument arguments 0)))
  data_to code data_row.ArraySize receiver arguments site p = refl
  data_to code data_row.ArrayAt receiver arguments site p = by _ _ site p (unchanged_to p.world (array_at p.world.cells receiver (argument arguments 0)))
  data_to code data_row.ArrayPut receiver arguments site p = by _ _ site p (put_to p.world receiver (place_in (argument arguments 0) (length (items_of p.world.cells receiver))) (argument arguments 1))
  data_to code data_row.MessageSelector receiver arguments site p = refl
  data_to code data_row.MessageArguments receiver arguments site p = refl

  answer_to : (result : Result Value Fault) (site : Site) (p : Progress) → answer_reached result site (to_steps k p) ≡ control_to k (answer_reached result site p)
  answer_to (Ok value) site p = refl
  answer_to (Err fault) site p = refl

  -- ---- facets

  bytes_to : (world : World) (bytes : List ℕ) → printed_bytes (world_to k world) bytes ≡ outcome_to (printed_bytes world bytes)
  bytes_to world bytes = ap printed_as (printed_to world bytes) ∙ cases (printed world bytes)
    where
      cases : (o : Option World) → printed_as (maybe_to k o) ≡ outcome_to (printed_as o)
      cases (Some next) = refl
      cases None = refl

  text_to : (world : World) (text : Value) (tail : List ℕ) → printed_text (world_to k world) text tail ≡ outcome_to (printed_text world text tail)
  text_to world text tail = either_to (is_text world.cells text) _ _ (Fails wrong_kind) (bytes_to world (bytes_of world.cells text ++ tail))

  printing_to : (code : CodeProgram) (world : World) (text : Value) (tail : List ℕ)
      → printing (world_to k world) code text tail ≡ outcome_to (printing world code text tail)
  printing_to code world value.Nil tail = text_to world value.Nil tail
  printing_to code world value.True tail = text_to world value.True tail
  printing_to code world value.False tail = text_to world value.False tail
  printing_to code world (value.Int number) tail = bytes_to world (signed_decimal number ++ tail)
  printing_to code world (value.Sym sel) tail = bytes_to world (selector_text code sel.0 ++ tail)
  printing_to code world (value.Kernel class) tail = text_to world (value.Kernel class) tail
  printing_to code world (value.Ref at) tail = text_to world (value.Ref at) tail

  facet_to : (code : CodeProgram) (about : FacetRow) (arguments : List Value) (site : Site) (p : Progress)
      → facet_reached code about arguments site (to_steps k p) ≡ control_to k (facet_reached code about arguments site p)
  facet_to code (facet.Top sel) arguments site p = refl
  facet_to code facet.PlatformConsole arguments site p = refl
  facet_to code facet.PlatformKernel arguments site p = refl
  facet_to code facet.PlatformMirrors arguments site p = refl
  facet_to code facet.PlatformBoard arguments site p = refl
  facet_to code facet.KernelObject arguments site p = refl
  facet_to code facet.KernelArray arguments site p = refl
  facet_to code facet.ConsolePrint arguments site p = by _ _ site (record p { board = board_after facet.ConsolePrint arguments p.board }) (printing_to code p.world (argument arguments 0) [])
  facet_to code facet.ConsolePrintLine arguments site p = by _ _ site (record p { board = board_after facet.ConsolePrintLine arguments p.board }) (printing_to code p.world (argument arguments 0) (10 ∷ []))
  facet_to code facet.BoardAt arguments site p = by _ _ site (record p { board = board_after facet.BoardAt arguments p.board }) (unchanged_to p.world (board_at p.board (argument arguments 0)))
  facet_to code facet.BoardPut arguments site p = by _ _ site (record p { board = board_after facet.BoardPut arguments p.board }) (unchanged_to p.world (board_put (argument arguments 0) (argument arguments 1)))

  -- ---- mirrors

  abbrev mirrored_to : Reflected → Reflected
  mirrored_to (Reflects answer world) = Reflects answer (world_to k world)
  mirrored_to (Refuses fault) = Refuses fault

  reflected_to : (outcome : RowOutcome) → reflected (outcome_to outcome) ≡ mirrored_to (reflected outcome)
  reflected_to (Answers value world) = refl
  reflected_to (Fails fault) = refl

  shown_to : (outcome' outcome : RowOutcome) → outcome' ≡ outcome_to outcome → reflected outcome' ≡ mirrored_to (reflected outcome)
  shown_to outcome' outcome e = ap reflected e ∙ reflected_to outcome

  answers_to : (answer : Mirrored) (world : World) (site : Site) (p : Progress)
      → reflected_reached (Reflects answer (world_to k world)) site (to_steps k p) ≡ control_to k (reflected_reached (Reflects answer world) site p)
  answers_to (Answer value) world site p = refl
  answers_to (MirrorPerform receiver sel array) world site p = refl

  mirror_reached_to : (r : Reflected) (site : Site) (p : Progress)
      → reflected_reached (mirrored_to r) site (to_steps k p) ≡ control_to k (reflected_reached r site p)
  mirror_reached_to (Reflects answer world) site p = answers_to answer world site p
  mirror_reached_to (Refuses fault) site p = refl

  write_to : (world : World) (object new : Value) (place : Option SlotPlace)
      → write_slot (world_to k world) object new place ≡ outcome_to (write_slot world object new place)
  write_to world object new None = refl
  write_to world object new (Some place) =
      either_to place.mutable _ _ (Fails (fault.Kind FixedSlot)) (ap (Answers new) (stored_to world object place.word new))

  slot_to : (code : CodeProgram) (world : World) (object name new : Value)
      → slot_put (world_to k world) code object name new ≡ outcome_to (slot_put world code object name new)
  slot_to code world object value.Nil new = refl
  slot_to code world object value.True new = refl
  slot_to code world object value.False new = refl
  slot_to code world object (value.Int number) new = refl
  slot_to code world object (value.Sym sel) new = write_to world object new (slot_of world.cells code object sel)
  slot_to code world object (value.Kernel class) new = refl
  slot_to code world object (value.Ref at) new = refl

  either_shown : (b : Bool) (x y : Reflected) → cond b (mirrored_to x) (mirrored_to y) ≡ mirrored_to (cond b x y)
  either_shown true x y = refl
  either_shown false x y = refl

  with_to : (code : CodeProgram) (world : World) (object : Value) (sel : Sel) (list : Value)
      → performed_with (world_to k world) code object sel list ≡ mirrored_to (performed_with world code object sel list)
  with_to code world object sel list =
      ap (λ r. cond (is_array world.cells list) r (Refuses wrong_kind))
      (either_shown (length (items_of world.cells list) == selector_arity code sel.0) (Reflects (MirrorPerform object sel (cell_number list)) world)
      (Refuses (fault.Kind WrongArity)))
      ∙ either_shown (is_array world.cells list) (performed world code object sel list) (Refuses wrong_kind)

  perform_to : (code : CodeProgram) (world : World) (object name list : Value)
      → perform (world_to k world) code object name list ≡ mirrored_to (perform world code object name list)
  perform_to code world object value.Nil list = refl
  perform_to code world object value.True list = refl
  perform_to code world object value.False list = refl
  perform_to code world object (value.Int number) list = refl
  perform_to code world object (value.Sym sel) list = with_to code world object sel list
  perform_to code world object (value.Kernel class) list = refl
  perform_to code world object (value.Ref at) list = refl

  outcome_of_mirror : (code : CodeProgram) (about : MirrorRow) (number : ℕ) (arguments : List Value) (world : World)
      → mirror (world_to k world) code about number arguments ≡ mirrored_to (mirror world code about number arguments)
  outcome_of_mirror code mirror_row.On number arguments world = shown_to _ _ (making_to world (MirrorCell (argument arguments 0)))
  outcome_of_mirror code mirror_row.ClassName number arguments world =
      shown_to _ _ (making_to world (TextCell (class_text code (class_name_of world.cells (mirrored world.cells number)))))
  outcome_of_mirror code mirror_row.SlotNames number arguments world =
      shown_to _ _ (making_to world (ArrayCell (slot_names_along world.cells code (chain_of world.cells (object_class world.cells (mirrored world.cells number))))))
  outcome_of_mirror code mirror_row.Slot number arguments world =
      shown_to _ _ (unchanged_to world (slot world.cells code (mirrored world.cells number) (argument arguments 0)))
  outcome_of_mirror code mirror_row.SlotPut number arguments world =
      shown_to _ _ (slot_to code world (mirrored world.cells number) (argument arguments 0) (argument arguments 1))
  outcome_of_mirror code mirror_row.Selectors number arguments world =
      shown_to _ _ (making_to world (ArrayCell (public_selectors (methods_of_shape world.cells code (shape_of_value world.cells (mirrored world.cells number))))))
  outcome_of_mirror code mirror_row.Enclosing number arguments world = refl
  outcome_of_mirror code mirror_row.Perform number arguments world =
      perform_to code world (mirrored world.cells number) (argument arguments 0) (argument arguments 1)

  -- ---- the other rows

  pub class_made_to : (cell : Cell) (fault : Option MakeFault) (site : Site) (p : Progress) (go' go : ℕ → Progress → After)
      → ((number : ℕ) (q : Progress) → go' number (to_steps k q) ≡ after_to k (go number q))
      → class_made cell fault site (to_steps k p) go' ≡ after_to k (class_made cell fault site p go)
  class_made_to cell (Some fault) site p go' go goes = refl
  class_made_to cell None site p go' go goes =
      charged_to (after_to k) Halts Cells (made (world_to k p.world) cell) (made p.world cell) p (go' (heap_size p.world.cells))
      (go (heap_size p.world.cells)) (made_to p.world cell) refl (goes (heap_size p.world.cells))

  mixed_to : (code : CodeProgram) (cell : NewCell) (over : Value) (site : Site) (p : Progress) → mixed code cell over site (to_steps k p) ≡ after_to k (mixed code cell over site p)
  mixed_to code (new.Object class words) over site p = refl
  mixed_to code (new.Class decl base encl holder under) over site p =
      class_made_to (class_cell p.world.cells code decl encl holder over) (class_fault p.world.cells over) site p _ _ (λ number q. refl)
  mixed_to code (new.Block body env home receiver holder) over site p = refl
  mixed_to code (new.Environment parent locals) over site p = refl
  mixed_to code (new.Array size) over site p = refl
  mixed_to code (new.Text bytes) over site p = refl
  mixed_to code (new.Facet kind) over site p = refl
  mixed_to code (new.Mirror shown) over site p = refl
  mixed_to code (new.Message sel args) over site p = refl

  either_control : (b : Bool) (x' x y : Control) → x' ≡ control_to k x → cond b x' (control_to k y) ≡ control_to k (cond b x y)
  either_control true x' x y e = e
  either_control false x' x y e = refl

  begun_to : (named : KMethod) (receiver first second : Value) (site : Site) (p : Progress)
      → method_begun named receiver first second site (to_steps k p) ≡ control_to k (method_begun named receiver first second site p)
  begun_to named receiver first second site p =
      either_control (has_arguments p.world.cells named first second) _ _ (fails WrongKind site p)
      (charged_to (control_to k) halts Depth (entered (world_to k p.world)) (entered p.world) p _
      (Begin named (beginning receiver first second (pos (turns_of p.world.cells named receiver))) site) (entered_to p.world) refl (λ q. refl))

  listed_to : (block array : Value) (site : Site) (p : Progress)
      → value_with_arguments block array site (to_steps k p) ≡ control_to k (value_with_arguments block array site p)
  listed_to block array site p =
      either_control (is_array p.world.cells array) _ _ (fails WrongKind site p)
      (other_control (nat_lt 255 (length (items_of p.world.cells array))) (fails WrongArity site p)
      (Evaluate block (items_of p.world.cells array) site p))
    where
      other_control : (b : Bool) (x y : Control) → cond b (control_to k x) (control_to k y) ≡ control_to k (cond b x y)
      other_control true x y = refl
      other_control false x y = refl

  pub row_to : (code : CodeProgram) (about : Row) (sel : Sel) (receiver : Value) (arguments : List Value) (site : Site) (p : Progress)
      → row_reached code about sel receiver arguments site (to_steps k p) ≡ control_to k (row_reached code about sel receiver arguments site p)
  row_to code (row.Data about) sel receiver arguments site p = data_to code about receiver arguments site p
  row_to code (row.Integer int) sel receiver arguments site p = answer_to (integer int (number_of receiver) (argument arguments 0)) site p
  row_to code row.Top sel receiver arguments site p = refl
  row_to code (row.Facet about) sel receiver arguments site p = facet_to code about arguments site p
  row_to code (row.Mirror about) sel receiver arguments site p =
      ap (λ r. reflected_reached r site (to_steps k p)) (outcome_of_mirror code about (cell_number receiver) arguments p.world)
      ∙ mirror_reached_to (mirror p.world code about (cell_number receiver) arguments) site p
  row_to code (row.Method method) sel receiver arguments site p = begun_to method receiver (argument arguments 0) (argument arguments 1) site p
  row_to code row.Apply sel receiver arguments site p = ap Now (mixed_to code (shape_of_value p.world.cells receiver) (argument arguments 0) site p)
  row_to code row.Value sel receiver arguments site p = refl
  row_to code row.ValueWithArguments sel receiver arguments site p = listed_to receiver (argument arguments 0) site p
  row_to code row.NumArgs sel receiver arguments site p = refl
