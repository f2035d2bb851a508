-- An error of an action names its site, or the selector of a Message in its stead.
use Rattle.std.proofs.Common.{◌≡◌, ℕ, List, [], ◌∷◌, length, replicate, refl, Option, Some, None, Bool, true, false, cond, eqb}
use Rattle.std.specs.Prelude.{Result, Ok, Err, pos, nat_lt, codes}
use Rattle.std.specs.Option.{option_map_or}
use Rattle.std.specs.Str.{bytes_eq}
use Rattle.ns_base.specs.declared.selector.Sel.{Sel}
use Rattle.ns_code.specs.declared.program.CodeProgram.{CodeProgram}
use Rattle.ns_code.specs.declared.own.Own.TheVariants.{DoesNotUnderstand}
use Rattle.ns_code.specs.Selector.{own_number, selector_text}
use Rattle.ns_world.specs.declared.value.Value.{Value}
use Rattle.ns_world.specs.declared.value.Value.TheVariants as value
use Rattle.ns_world.specs.declared.value.KClass.TheVariants.{Object}
use Rattle.ns_world.specs.declared.ending.Fault.{Fault}
use Rattle.ns_world.specs.declared.ending.Fault.TheVariants as fault
use Rattle.ns_world.specs.declared.ending.Kind.{Kind}
use Rattle.ns_world.specs.declared.ending.Kind.TheVariants as kind
use Rattle.ns_world.specs.declared.ending.LimitKind.TheVariants.{Steps, Depth, Cells}
use Rattle.ns_world.specs.declared.cell.NewCell.{NewCell}
use Rattle.ns_world.specs.declared.cell.NewCell.TheVariants as new
use Rattle.ns_world.specs.Cell.{Cell, ObjectCell, ClassCell, BlockCell, EnvironmentCell, ArrayCell, TextCell, FacetCell, MirrorCell, MessageCell, shape_of}
use Rattle.ns_world.specs.Heap.{heap_size, find_cell, superclass_in, cell_number}
use Rattle.ns_world.specs.World.{World, made, stepped, entered, left}
use Rattle.ns_world.specs.Lawful.{IsLawful, MessageIsLawful}
use Rattle.ns_world.specs.Layout.{declaration_of, layout_of}
use Rattle.ns_world.specs.Starts.{start_of}
use Rattle.ns_world.specs.laws.Charging.{step_keeps}
use Rattle.ns_classes.specs.declared.apply.MakeFault.{MakeFault}
use Rattle.ns_classes.specs.Apply.{class_fault, class_cell}
use Rattle.ns_classes.specs.Nested.{kept_class}
use Rattle.ns_find.specs.declared.found.Found.{Found}
use Rattle.ns_find.specs.declared.found.Found.TheVariants as found
use Rattle.ns_find.specs.declared.found.Sending.TheVariants.{Plain, Inner}
use Rattle.ns_find.specs.Find.{found_from}
use Rattle.ns_kint.specs.Integer.{integer}
use Rattle.ns_world.specs.declared.kernel_parts.DataRow.{DataRow}
use Rattle.ns_world.specs.declared.kernel_parts.DataRow.TheVariants as values
use Rattle.ns_kdata.specs.Outcome.{RowOutcome, Answers, Fails, wrong_kind}
use Rattle.ns_kdata.specs.Arguments.{argument, number_of, items_of, is_array, shape_of_value}
use Rattle.ns_kdata.specs.Arguments.{is_message}
use Rattle.ns_kdata.specs.Rows.{message_selector, selector_in}
use Rattle.ns_kdata.specs.Datum.{datum}
use Rattle.ns_world.specs.declared.kernel_parts.FacetRow.{FacetRow}
use Rattle.ns_world.specs.declared.kernel_parts.FacetRow.TheVariants as facet
use Rattle.ns_facets.specs.Facet.{facet as facet_outcome, board_after}
use Rattle.ns_mirror.specs.declared.row.Mirrored.TheVariants.{Answer, Perform}
use Rattle.ns_mirror.specs.Mirror.{Reflected, Reflects, Refuses, mirror}
use Rattle.ns_world.specs.declared.kernel_parts.KMethod.{KMethod}
use Rattle.ns_kcode.specs.declared.state.KState.{KState}
use Rattle.ns_kcode.specs.declared.state.KAction.{KAction}
use Rattle.ns_kcode.specs.declared.state.KAction.TheVariants as action
use Rattle.ns_kcode.specs.Next.{next}
use Rattle.ns_kcode.specs.Rows.{beginning}
use Rattle.ns_world.specs.declared.kernel_row.Row.{Row}
use Rattle.ns_world.specs.declared.kernel_row.Row.TheVariants as row
use Rattle.ns_moves.specs.declared.site.Site.{Site}
use Rattle.ns_moves.specs.Site.{error, fault_ending, make_fault}
use Rattle.ns_moves.specs.Control.{Progress, in_world, Activation, Exit, FromMethod, FromBody, FromClause, After, Gives, Halts, Control, Enter, Evaluate}
use Rattle.ns_moves.specs.Control.{Begin, Stop, Skip, EnterPart, Waiting, Waits, Finishes, halts, fails, charged}
use Rattle.ns_moves.specs.Bodies.{has_environment, first_locals, parameters_of, initialiser_of, clause_of, no_home, opened}
use Rattle.ns_moves.specs.Classes.{class_made, mixed, newly_kept, kept_or, class_over, keeping, head, nested, instance, super_selector, factory_selector, declared_part, object_part, part_of, body_ended}
use Rattle.ns_moves.specs.Blocks.{new_cell, block_entered, value_with_arguments, has_arguments, turns_of, method_begun, listed, waiting, turned, item_at, acted}
use Rattle.ns_world.specs.KernelTable.{row_at}
use Rattle.ns_moves.specs.Kernel.{outcome_reached, answer_reached, reflected_reached, facet_reached, message_refused, data_reached, row_reached}
use Rattle.ns_moves.specs.Sends.{Arguments, Listed, Wrapped, given, one_more, method_entered, factory_entered, set, nested_in, done_with, not_found, answered_by, found_at, receiver_of, site_at}
use Rattle.ns_moves.specs.Lawful.{LawfulRun}
use Rattle.ns_moves.specs.Fitting.{FitsSite}
use Rattle.ns_moves.specs.Actions.{Action, Sends, SendsPlain, Performs, Evaluates, Continues, BeginsPart, EndsPart, EndsBody, MakesBlock, MakesText, MakesArray, FillsSlot, StoresLocal}
use Rattle.ns_moves.specs.Ending.{FitsEnding, EndsAfter, EndsControl, PartEnds, EndsWaiting, HasSite, EndsFitly}
use Rattle.ns_moves.specs.laws.Onward.{charged_all}
use Rattle.ns_moves.specs.laws.Sites.{site_fits}

module _ (code : CodeProgram) (site : Site) (fits : FitsSite code site) where
  error_fits : (k : Kind) → FitsEnding code (error k site)
  error_fits k = record { place = fits.place; class = fits.class; sel = fits.sel }

  fault_fits : (f : Fault) → FitsEnding code (fault_ending f site)
  fault_fits (fault.Kind k) = error_fits k
  fault_fits (fault.Limit limit) = tt

  -- ---- rows of the kernel

  outcome_ends : (outcome : RowOutcome) (progress : Progress) → EndsControl code (outcome_reached outcome site progress)
  outcome_ends (Answers answer world) progress = tt
  outcome_ends (Fails f) progress = fault_fits f

  answer_ends : (r : Result Value Fault) (progress : Progress) → EndsControl code (answer_reached r site progress)
  answer_ends (Ok answer) progress = tt
  answer_ends (Err f) progress = fault_fits f

  reflected_ends : (r : Reflected) (progress : Progress) → EndsControl code (reflected_reached r site progress)
  reflected_ends (Reflects (Answer answer) world) progress = tt
  reflected_ends (Reflects (Perform receiver sel array) world) progress = tt
  reflected_ends (Refuses f) progress = fault_fits f

  -- the kernel's `doesNotUnderstand:` names the selector of its Message, which is one
  message_ends : (world : World) (message : Value) (progress : Progress) → IsLawful world code
      → (b : Bool) → EndsControl code (message_refused (Fails (cond b (fault.Kind kind.NotUnderstood) wrong_kind)) (message_selector world.cells message) site progress)
  message_ends world message progress lawful false = error_fits kind.WrongKind
  message_ends world (value.Ref at) progress lawful true = cell (find_cell world.cells at) refl
    where
      named : (sel : Sel) (args : Value) → MessageIsLawful world.cells code sel args
          → EndsControl code (message_refused (Fails (fault.Kind kind.NotUnderstood)) (value.Sym sel) site progress)
      named sel (value.Ref array) m = record { place = fits.place; class = fits.class; sel = m.0 }
      named sel value.Nil m = absurd m
      named sel value.True m = absurd m
      named sel value.False m = absurd m
      named sel (value.Int number) m = absurd m
      named sel (value.Sym name) m = absurd m
      named sel (value.Kernel class) m = absurd m

      cell : (o : Option Cell) → find_cell world.cells at ≡ o
          → EndsControl code (message_refused (Fails (fault.Kind kind.NotUnderstood)) (selector_in (option_map_or shape_of o (new.Mirror value.Nil))) site progress)
      cell (Some (MessageCell sel args)) e = named sel args (lawful.cells at (MessageCell sel args) e)
      cell (Some (ObjectCell class entries)) e = error_fits kind.NotUnderstood
      cell (Some (ClassCell decl base encl holder over)) e = error_fits kind.NotUnderstood
      cell (Some (BlockCell body env home receiver holder)) e = error_fits kind.NotUnderstood
      cell (Some (EnvironmentCell parent locals)) e = error_fits kind.NotUnderstood
      cell (Some (ArrayCell items)) e = error_fits kind.NotUnderstood
      cell (Some (TextCell bytes)) e = error_fits kind.NotUnderstood
      cell (Some (FacetCell k)) e = error_fits kind.NotUnderstood
      cell (Some (MirrorCell shown)) e = error_fits kind.NotUnderstood
      cell None e = error_fits kind.NotUnderstood
  message_ends world value.Nil progress lawful true = error_fits kind.NotUnderstood
  message_ends world value.True progress lawful true = error_fits kind.NotUnderstood
  message_ends world value.False progress lawful true = error_fits kind.NotUnderstood
  message_ends world (value.Int number) progress lawful true = error_fits kind.NotUnderstood
  message_ends world (value.Sym sel) progress lawful true = error_fits kind.NotUnderstood
  message_ends world (value.Kernel class) progress lawful true = error_fits kind.NotUnderstood

  data_ends : (r : DataRow) (receiver : Value) (arguments : List Value) (progress : Progress) → LawfulRun code progress → EndsControl code (data_reached code r receiver arguments site progress)
  data_ends values.DoesNotUnderstand receiver arguments progress lawful =
      message_ends progress.world (argument arguments 0) progress lawful (is_message progress.world.cells (argument arguments 0))
  data_ends values.Identical receiver arguments progress lawful = outcome_ends (datum progress.world code values.Identical receiver arguments) progress
  data_ends values.Equal receiver arguments progress lawful = outcome_ends (datum progress.world code values.Equal receiver arguments) progress
  data_ends values.IsNil receiver arguments progress lawful = outcome_ends (datum progress.world code values.IsNil receiver arguments) progress
  data_ends values.NotNil receiver arguments progress lawful = outcome_ends (datum progress.world code values.NotNil receiver arguments) progress
  data_ends values.KernelObject receiver arguments progress lawful = outcome_ends (datum progress.world code values.KernelObject receiver arguments) progress
  data_ends values.NewObject receiver arguments progress lawful = outcome_ends (datum progress.world code values.NewObject receiver arguments) progress
  data_ends values.NewArray receiver arguments progress lawful = outcome_ends (datum progress.world code values.NewArray receiver arguments) progress
  data_ends values.NilPrint receiver arguments progress lawful = outcome_ends (datum progress.world code values.NilPrint receiver arguments) progress
  data_ends values.Not receiver arguments progress lawful = outcome_ends (datum progress.world code values.Not receiver arguments) progress
  data_ends values.BooleanPrint receiver arguments progress lawful = outcome_ends (datum progress.world code values.BooleanPrint receiver arguments) progress
  data_ends values.And receiver arguments progress lawful = outcome_ends (datum progress.world code values.And receiver arguments) progress
  data_ends values.Or receiver arguments progress lawful = outcome_ends (datum progress.world code values.Or receiver arguments) progress
  data_ends values.IntegerPrint receiver arguments progress lawful = outcome_ends (datum progress.world code values.IntegerPrint receiver arguments) progress
  data_ends values.TextSize receiver arguments progress lawful = outcome_ends (datum progress.world code values.TextSize receiver arguments) progress
  data_ends values.TextAt receiver arguments progress lawful = outcome_ends (datum progress.world code values.TextAt receiver arguments) progress
  data_ends values.TextCopy receiver arguments progress lawful = outcome_ends (datum progress.world code values.TextCopy receiver arguments) progress
  data_ends values.TextJoin receiver arguments progress lawful = outcome_ends (datum progress.world code values.TextJoin receiver arguments) progress
  data_ends values.TextEqual receiver arguments progress lawful = outcome_ends (datum progress.world code values.TextEqual receiver arguments) progress
  data_ends values.TextLess receiver arguments progress lawful = outcome_ends (datum progress.world code values.TextLess receiver arguments) progress
  data_ends values.TextPrint receiver arguments progress lawful = outcome_ends (datum progress.world code values.TextPrint receiver arguments) progress
  data_ends values.SymbolSize receiver arguments progress lawful = outcome_ends (datum progress.world code values.SymbolSize receiver arguments) progress
  data_ends values.SymbolText receiver arguments progress lawful = outcome_ends (datum progress.world code values.SymbolText receiver arguments) progress
  data_ends values.SymbolPrint receiver arguments progress lawful = outcome_ends (datum progress.world code values.SymbolPrint receiver arguments) progress
  data_ends values.SymbolLess receiver arguments progress lawful = outcome_ends (datum progress.world code values.SymbolLess receiver arguments) progress
  data_ends values.ArraySize receiver arguments progress lawful = outcome_ends (datum progress.world code values.ArraySize receiver arguments) progress
  data_ends values.ArrayAt receiver arguments progress lawful = outcome_ends (datum progress.world code values.ArrayAt receiver arguments) progress
  data_ends values.ArrayPut receiver arguments progress lawful = outcome_ends (datum progress.world code values.ArrayPut receiver arguments) progress
  data_ends values.MessageSelector receiver arguments progress lawful = outcome_ends (datum progress.world code values.MessageSelector receiver arguments) progress
  data_ends values.MessageArguments receiver arguments progress lawful = outcome_ends (datum progress.world code values.MessageArguments receiver arguments) progress

  facet_ends : (r : FacetRow) (arguments : List Value) (progress : Progress) → EndsControl code (facet_reached code r arguments site progress)
  facet_ends r arguments progress = outcome_ends (facet_outcome progress.world code r arguments progress.board) (record progress { board = board_after r arguments progress.board })

  array_ends : (block array : Value) (progress : Progress) → EndsControl code (value_with_arguments block array site progress)
  array_ends block array progress = tested (is_array progress.world.cells array) (nat_lt 255 (length (items_of progress.world.cells array)))
    where
      tested : (b c : Bool) → EndsControl code (cond b (cond c (fails kind.WrongArity site progress) (Evaluate block (items_of progress.world.cells array) site progress)) (fails kind.WrongKind site progress))
      tested true true = error_fits kind.WrongArity
      tested true false = tt
      tested false c = error_fits kind.WrongKind

  begun_ends : (method : KMethod) (receiver first second : Value) (progress : Progress) → EndsControl code (method_begun method receiver first second site progress)
  begun_ends method receiver first second progress = tested (has_arguments progress.world.cells method first second)
    where
      go : Progress → Control
      go = Begin method (beginning receiver first second (pos (turns_of progress.world.cells method receiver))) site

      tested : (b : Bool) → EndsControl code (cond b (charged halts Depth (entered progress.world) progress go) (fails kind.WrongKind site progress))
      tested true = charged_all (EndsControl code) halts Depth (entered progress.world) progress go tt (λ world e. tt)
      tested false = error_fits kind.WrongKind

  -- ---- classes

  made_ends : (cell : Cell) (f : Option MakeFault) (progress : Progress) (go : ℕ → Progress → After) → ((number : ℕ) (next : Progress) → EndsAfter code (go number next)) → EndsAfter code (class_made cell f site progress go)
  made_ends cell (Some f) progress go goes = fault_fits (make_fault f)
  made_ends cell None progress go goes = charged_all (EndsAfter code) Halts Cells (made progress.world cell) progress (go (heap_size progress.world.cells)) tt (λ world e. goes (heap_size progress.world.cells) (in_world progress world))

  mixed_ends : (cell : NewCell) (over : Value) (progress : Progress) → EndsAfter code (mixed code cell over site progress)
  mixed_ends (new.Class decl base encl holder under) over progress =
      made_ends (class_cell progress.world.cells code decl encl holder over) (class_fault progress.world.cells over) progress (λ number progress. Gives (value.Ref number) progress) (λ number next. tt)
  mixed_ends (new.Object class words) over progress = error_fits kind.NotAClass
  mixed_ends (new.Block body env home receiver holder) over progress = error_fits kind.NotAClass
  mixed_ends (new.Environment parent locals) over progress = error_fits kind.NotAClass
  mixed_ends (new.Array size) over progress = error_fits kind.NotAClass
  mixed_ends (new.Text bytes) over progress = error_fits kind.NotAClass
  mixed_ends (new.Facet k) over progress = error_fits kind.NotAClass
  mixed_ends (new.Mirror shown) over progress = error_fits kind.NotAClass
  mixed_ends (new.Message sel args) over progress = error_fits kind.NotAClass

  kept_ends : (kept : Option ℕ) (progress : Progress) (after : After) → EndsAfter code after → EndsAfter code (kept_or kept progress after)
  kept_ends (Some class) progress after e = tt
  kept_ends None progress after e = e

  over_ends : (object holder class : ℕ) (over : Value) (progress : Progress) → EndsAfter code (class_over code object holder class over site progress)
  over_ends object holder class over progress =
      kept_ends (kept_class progress.world.cells code object holder class) progress (newly_kept code object holder class over site progress)
      (made_ends (class_cell progress.world.cells code class (value.Ref object) (value.Ref holder) over) (class_fault progress.world.cells over) progress
      (λ number progress. Gives (value.Ref number) (in_world progress (keeping code object holder class number progress.world))) (λ number next. tt))

  row_ends : (r : Row) (sel : Sel) (receiver : Value) (arguments : List Value) (progress : Progress) → LawfulRun code progress → EndsControl code (row_reached code r sel receiver arguments site progress)
  row_ends (row.Data d) sel receiver arguments progress lawful = data_ends d receiver arguments progress lawful
  row_ends (row.Integer i) sel receiver arguments progress lawful = answer_ends (integer i (number_of receiver) (argument arguments 0)) progress
  row_ends row.Top sel receiver arguments progress lawful = facet_ends (facet.Top sel) arguments progress
  row_ends (row.Facet f) sel receiver arguments progress lawful = facet_ends f arguments progress
  row_ends (row.Mirror m) sel receiver arguments progress lawful = reflected_ends (mirror progress.world code m (cell_number receiver) arguments) progress
  row_ends (row.Method m) sel receiver arguments progress lawful = begun_ends m receiver (argument arguments 0) (argument arguments 1) progress
  row_ends row.Apply sel receiver arguments progress lawful = mixed_ends (shape_of_value progress.world.cells receiver) (argument arguments 0) progress
  row_ends row.Value sel receiver arguments progress lawful = tt
  row_ends row.ValueWithArguments sel receiver arguments progress lawful = array_ends receiver (argument arguments 0) progress
  row_ends row.NumArgs sel receiver arguments progress lawful = tt

  -- ---- members

  opened_ends : (go : Activation → List Value → Progress → Control) (activation : Activation) (arguments : List Value) (progress : Progress)
      → ((running : Activation) (locals : List Value) (next : Progress) → EndsControl code (go running locals next)) → EndsControl code (opened code halts go activation arguments progress)
  opened_ends go activation arguments progress goes = tested (has_environment code activation.body)
    where
      locals : List Value
      locals = first_locals code activation.body arguments

      inner : Activation
      inner = record activation { env = value.Ref (heap_size progress.world.cells) }

      tested : (b : Bool) → EndsControl code (cond b (charged halts Cells (made progress.world (EnvironmentCell activation.env locals)) progress (go inner [])) (go activation locals progress))
      tested true = charged_all (EndsControl code) halts Cells (made progress.world (EnvironmentCell activation.env locals)) progress (go inner []) tt (λ world e. goes inner [] (in_world progress world))
      tested false = goes activation locals progress

  given_ends : (arguments : Arguments) (progress : Progress) (go : List Value → Progress → Control) → ((list : List Value) (next : Progress) → EndsControl code (go list next)) → EndsControl code (given arguments progress go)
  given_ends (Listed list) progress go goes = goes list progress
  given_ends (Wrapped sel list) progress go goes =
      charged_all (EndsControl code) halts Cells (made progress.world (ArrayCell list)) progress _ tt
      (λ world e. charged_all (EndsControl code) halts Cells (made world (MessageCell sel (value.Ref (heap_size progress.world.cells)))) (in_world progress world) _ tt (λ next m. goes _ (in_world (in_world progress world) next)))

  method_ends : (body holder : ℕ) (receiver : Value) (arguments : Arguments) (progress : Progress) → EndsControl code (method_entered code body holder receiver arguments site progress)
  method_ends body holder receiver arguments progress =
      charged_all (EndsControl code) halts Depth (entered progress.world) progress _ tt
      (λ world e. given_ends arguments (in_world progress world) _ (λ list next. opened_ends (λ activation locals progress. Enter FromMethod activation locals (one_more progress)) _ list next (λ running locals last. tt)))

  instance_ends : (class : ℕ) (list : List Value) (progress : Progress) → EndsControl code (instance code class list site progress)
  instance_ends class list progress =
      charged_all (EndsControl code) halts Cells (made progress.world (ObjectCell class (replicate (layout_of progress.world.cells code class) value.Nil))) progress _ tt
      (λ world e. opened_ends (Enter FromBody) _ list (in_world progress world) (λ running locals last. tt))

  factory_ends : (class : ℕ) (arguments : Arguments) (progress : Progress) → EndsControl code (factory_entered code class arguments site progress)
  factory_ends class arguments progress =
      charged_all (EndsControl code) halts Depth (entered progress.world) progress _ tt
      (λ world e. given_ends arguments (in_world progress world) (λ list progress. instance code class list site progress) (λ list next. instance_ends class list next))

  set_ends : (word : ℕ) (receiver : Value) (arguments : Arguments) (progress : Progress) → EndsControl code (set word receiver arguments progress)
  set_ends word receiver arguments progress = given_ends arguments progress _ (λ list next. tt)

  head_ends : (object holder class : ℕ) (clause : Option ℕ) (progress : Progress) → EndsControl code (head code object holder class clause site progress)
  head_ends object holder class None progress = over_ends object holder class (value.Kernel Object) progress
  head_ends object holder class (Some clause) progress =
      charged_all (EndsControl code) halts Depth (entered progress.world) progress _ tt
      (λ world e. opened_ends (Enter (FromClause object holder class)) _ [] (in_world progress world) (λ running locals last. tt))

  nested_ends : (object holder class : ℕ) (kept : Option ℕ) (progress : Progress) → EndsControl code (nested code object holder class kept site progress)
  nested_ends object holder class (Some number) progress = tt
  nested_ends object holder class None progress = head_ends object holder class (clause_of code class) progress

  nested_in_ends : (receiver : Value) (holder class : ℕ) (progress : Progress) → EndsControl code (nested_in code receiver holder class site progress)
  nested_in_ends (value.Ref object) holder class progress = nested_ends object holder class (kept_class progress.world.cells code object holder class) progress
  nested_in_ends value.Nil holder class progress = error_fits kind.NotUnderstood
  nested_in_ends value.True holder class progress = error_fits kind.NotUnderstood
  nested_in_ends value.False holder class progress = error_fits kind.NotUnderstood
  nested_in_ends (value.Int number) holder class progress = error_fits kind.NotUnderstood
  nested_in_ends (value.Sym sel) holder class progress = error_fits kind.NotUnderstood
  nested_in_ends (value.Kernel kernel) holder class progress = error_fits kind.NotUnderstood

  listed_ends : (member : Found) (sel : Sel) (receiver : Value) (list : List Value) (progress : Progress) → LawfulRun code progress → EndsControl code (done_with code member sel receiver (Listed list) site progress)
  listed_ends (found.Method body holder) sel receiver list progress lawful = method_ends body holder receiver (Listed list) progress
  listed_ends (found.Getter holder word) sel receiver list progress lawful = tt
  listed_ends (found.Setter holder word) sel receiver list progress lawful = set_ends word receiver (Listed list) progress
  listed_ends (found.Nested class holder) sel receiver list progress lawful = nested_in_ends receiver holder class progress
  listed_ends (found.Factory class) sel receiver list progress lawful = factory_ends class (Listed list) progress
  listed_ends (found.Kernel number) sel receiver list progress lawful = row_ends (row_at number) sel receiver list progress lawful
  listed_ends found.NotPublic sel receiver list progress lawful = error_fits kind.NotPublic
  listed_ends found.Absent sel receiver list progress lawful = error_fits kind.NotUnderstood

  absent_ends : (member : Found) (sel : Sel) (receiver : Value) (list : List Value) (progress : Progress) → EndsControl code (not_found code member sel receiver list site progress)
  absent_ends (found.Method body holder) sel receiver list progress = method_ends body holder receiver (Wrapped sel list) progress
  absent_ends (found.Getter holder word) sel receiver list progress = tt
  absent_ends (found.Setter holder word) sel receiver list progress = set_ends word receiver (Wrapped sel list) progress
  absent_ends (found.Nested class holder) sel receiver list progress = nested_in_ends receiver holder class progress
  absent_ends (found.Factory class) sel receiver list progress = factory_ends class (Wrapped sel list) progress
  absent_ends (found.Kernel number) sel receiver list progress = error_fits kind.NotUnderstood
  absent_ends found.NotPublic sel receiver list progress = error_fits kind.NotPublic
  absent_ends found.Absent sel receiver list progress = error_fits kind.NotUnderstood

  answered_ends : (member : Found) (sel : Sel) (receiver : Value) (list : List Value) (progress : Progress) → LawfulRun code progress → EndsControl code (answered_by code member sel receiver list site progress)
  answered_ends (found.Method body holder) sel receiver list progress lawful = listed_ends (found.Method body holder) sel receiver list progress lawful
  answered_ends (found.Getter holder word) sel receiver list progress lawful = listed_ends (found.Getter holder word) sel receiver list progress lawful
  answered_ends (found.Setter holder word) sel receiver list progress lawful = listed_ends (found.Setter holder word) sel receiver list progress lawful
  answered_ends (found.Nested class holder) sel receiver list progress lawful = listed_ends (found.Nested class holder) sel receiver list progress lawful
  answered_ends (found.Factory class) sel receiver list progress lawful = listed_ends (found.Factory class) sel receiver list progress lawful
  answered_ends (found.Kernel number) sel receiver list progress lawful = listed_ends (found.Kernel number) sel receiver list progress lawful
  answered_ends found.NotPublic sel receiver list progress lawful = listed_ends found.NotPublic sel receiver list progress lawful
  answered_ends found.Absent sel receiver list progress lawful =
      absent_ends (found_from progress.world.cells code (start_of progress.world.cells receiver) (own_number code DoesNotUnderstand) Inner) sel receiver list progress

  -- a send with its step, whatever it finds
  stepped_ends : (member : Found) (sel : Sel) (receiver : Value) (list : List Value) (progress : Progress) → LawfulRun code progress
      → EndsControl code (charged halts Steps (stepped progress.world) progress (answered_by code member sel receiver list site))
  stepped_ends member sel receiver list progress lawful =
      charged_all (EndsControl code) halts Steps (stepped progress.world) progress (answered_by code member sel receiver list site) tt
      (λ world e. answered_ends member sel receiver list (in_world progress world) (step_keeps progress.world world code lawful e))

  -- ---- evaluations, and the methods of the kernel that make them

  entered_ends : (shape : NewCell) (list : List Value) (progress : Progress) → EndsControl code (block_entered code shape list site progress)
  entered_ends (new.Block body env home receiver holder) list progress = tested (eqb (length list) (parameters_of code body))
    where
      framed : Progress → Control
      framed progress = charged halts Depth (entered progress.world) progress (opened code halts (Enter FromBody) (record { self = receiver; holder = holder; body = body; home = home; env = env; site = site }) list)

      tested : (b : Bool) → EndsControl code (cond b (charged halts Steps (stepped progress.world) progress framed) (fails kind.WrongArity site progress))
      tested true =
          charged_all (EndsControl code) halts Steps (stepped progress.world) progress framed tt
          (λ world s. charged_all (EndsControl code) halts Depth (entered world) (in_world progress world) _ tt
          (λ next d. opened_ends (Enter FromBody) (record { self = receiver; holder = holder; body = body; home = home; env = env; site = site }) list (in_world progress next) (λ running locals last. tt)))
      tested false = error_fits kind.WrongArity
  entered_ends (new.Object class words) list progress = error_fits kind.WrongKind
  entered_ends (new.Class decl base encl holder over) list progress = error_fits kind.WrongKind
  entered_ends (new.Environment parent locals) list progress = error_fits kind.WrongKind
  entered_ends (new.Array size) list progress = error_fits kind.WrongKind
  entered_ends (new.Text bytes) list progress = error_fits kind.WrongKind
  entered_ends (new.Facet k) list progress = error_fits kind.WrongKind
  entered_ends (new.Mirror shown) list progress = error_fits kind.WrongKind
  entered_ends (new.Message sel args) list progress = error_fits kind.WrongKind

  turned_ends : (turn : Bool) (progress : Progress) (go : Progress → Waiting) → ((next : Progress) → EndsWaiting code (go next)) → EndsWaiting code (turned turn progress go)
  turned_ends true progress go goes =
      charged_all (EndsWaiting code) (λ ending progress. Finishes (Halts ending progress)) Steps (stepped progress.world) progress go tt (λ world e. goes (in_world progress world))
  turned_ends false progress go goes = goes progress

  acted_ends : (a : KAction) (state : KState) (progress : Progress) → EndsWaiting code (acted a state site progress)
  acted_ends (action.Evaluate block argument turn count) state progress = turned_ends turn progress (Waits block (listed argument) (waiting state count)) (λ next. tt)
  acted_ends (action.EvaluateItem block item count) state progress =
      turned_ends true progress (λ progress. Waits block (item_at progress.world.cells state.receiver item ∷ []) (waiting state count) progress) (λ next. tt)
  acted_ends (action.Answer answer) state progress = tt
  acted_ends (action.Fail k) state progress = error_fits k

  -- ---- superclass parts, and the ends of bodies

  opened_part_ends : (activation : Activation) (list : List Value) (progress : Progress) → PartEnds code (opened code Stop EnterPart activation list progress)
  opened_part_ends activation list progress = tested (has_environment code activation.body)
    where
      locals : List Value
      locals = first_locals code activation.body list

      inner : Activation
      inner = record activation { env = value.Ref (heap_size progress.world.cells) }

      tested : (b : Bool) → PartEnds code (cond b (charged Stop Cells (made progress.world (EnvironmentCell activation.env locals)) progress (EnterPart inner [])) (EnterPart activation locals progress))
      tested true = charged_all (PartEnds code) Stop Cells (made progress.world (EnvironmentCell activation.env locals)) progress (EnterPart inner []) tt (λ world e. tt)
      tested false = tt

  ended_ends : (exit : Exit) (activation : Activation) (answer : Value) (progress : Progress) → activation.site ≡ site → EndsAfter code (body_ended code exit activation answer progress)
  ended_ends FromMethod activation answer progress e = tt
  ended_ends FromBody activation answer progress e = tt
  ended_ends (FromClause object holder class) activation answer progress e = rw e (over_ends object holder class answer (in_world progress (left progress.world)))

part_ends :
    (code : CodeProgram) (activation : Activation) (fits : FitsSite code activation.site) (over : Value) (sel : ℕ) (list : List Value) (progress : Progress) →
    PartEnds code (part_of code activation over sel list progress)
part_ends code activation fits over' sel list progress = over_part over'
  where
    object_ends : PartEnds code (object_part code activation sel progress)
    object_ends = tested (bytes_eq (selector_text code sel) (codes "new"))
      where
        tested : (b : Bool) → PartEnds code (cond b (Skip progress) (Stop (error kind.InitMismatch activation.site) progress))
        tested true = tt
        tested false = error_fits code activation.site fits kind.InitMismatch

    declared_ends : (over : ℕ) → PartEnds code (declared_part code activation over sel list progress)
    declared_ends over = tested (eqb sel (factory_selector code (declaration_of progress.world.cells over)))
      where
        inner : Activation
        inner = record { self = activation.self; holder = over; body = initialiser_of code (declaration_of progress.world.cells over); home = no_home; env = value.Nil; site = activation.site }

        tested : (b : Bool) → PartEnds code (cond b (charged Stop Depth (entered progress.world) progress (opened code Stop EnterPart inner list)) (Stop (error kind.InitMismatch activation.site) progress))
        tested true = charged_all (PartEnds code) Stop Depth (entered progress.world) progress (opened code Stop EnterPart inner list) tt (λ world e. opened_part_ends code activation.site fits inner list (in_world progress world))
        tested false = error_fits code activation.site fits kind.InitMismatch

    over_part : (over : Value) → PartEnds code (part_of code activation over sel list progress)
    over_part (value.Ref over) = declared_ends over
    over_part value.Nil = object_ends
    over_part value.True = object_ends
    over_part value.False = object_ends
    over_part (value.Int number) = object_ends
    over_part (value.Sym name) = object_ends
    over_part (value.Kernel class) = object_ends

cell_ends : (code : CodeProgram) (cell : Cell) (progress : Progress) → EndsAfter code (new_cell cell progress)
cell_ends code cell progress =
    charged_all (EndsAfter code) Halts Cells (made progress.world cell) progress (Gives (value.Ref (heap_size progress.world.cells))) tt (λ world e. tt)

-- a plain send that waited with its site
pub waited_ends : (code : CodeProgram) (receiver : Value) (sel : Sel) (list : List Value) (site : Site) (progress : Progress) →
    LawfulRun code progress → FitsSite code site
    → EndsControl code (charged halts Steps (stepped progress.world) progress (answered_by code (found_from progress.world.cells code (start_of progress.world.cells receiver) sel.0 Plain) sel receiver list site))
waited_ends code receiver sel list site progress lawful fits =
    stepped_ends code site fits (found_from progress.world.cells code (start_of progress.world.cells receiver) sel.0 Plain) sel receiver list progress lawful

-- In a lawful run each action ends fitly: never with a value, and an error names its site.
pub action_ends : (code : CodeProgram) (act : Action) (progress : Progress) → LawfulRun code progress → HasSite code act →
    EndsFitly code act progress
action_ends code (Sends activation target sel list place) progress lawful names =
    let to : Value = receiver_of progress.world.cells activation target in
    stepped_ends code (site_at progress.world.cells place to sel) (site_fits code to sel place progress lawful names.selector names.file)
    (found_at progress.world.cells code activation target sel.0) sel to list progress lawful
action_ends code (SendsPlain receiver sel list place) progress lawful names =
    waited_ends code receiver sel list (site_at progress.world.cells place receiver sel) progress lawful (site_fits code receiver sel place progress lawful names.selector names.file)
action_ends code (Performs receiver sel array site) progress lawful names =
    waited_ends code receiver sel (items_of progress.world.cells (value.Ref array)) (site_at progress.world.cells site.place receiver sel) progress lawful
    (site_fits code receiver sel site.place progress lawful names.selector names.file)
action_ends code (Evaluates block list site) progress lawful fits =
    entered_ends code site fits (shape_of_value progress.world.cells block) list progress
action_ends code (Continues method state site) progress lawful fits = acted_ends code site fits (next method state) state progress
action_ends code (BeginsPart activation list) progress lawful fits =
    part_ends code activation fits (superclass_in (find_cell progress.world.cells activation.holder)) (super_selector code (declaration_of progress.world.cells activation.holder)) list progress
action_ends code EndsPart progress lawful fits = tt
action_ends code (EndsBody exit activation answer) progress lawful fits =
    ended_ends code activation.site fits exit activation answer progress refl
action_ends code (MakesBlock activation body) progress lawful fits =
    cell_ends code (BlockCell body activation.env activation.home activation.self activation.holder) progress
action_ends code (MakesText bytes) progress lawful fits = cell_ends code (TextCell bytes) progress
action_ends code (MakesArray items) progress lawful fits = cell_ends code (ArrayCell items) progress
action_ends code (FillsSlot activation slot answer) progress lawful fits = tt
action_ends code (StoresLocal activation hops place answer) progress lawful fits = tt
