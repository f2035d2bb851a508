-- A send comes to one of `perform:with:` only where it is itself a send of that.
use Rattle.std.proofs.Common.{ℕ, List, [], ◌∷◌, Option, Some, None, Bool, true, false, cond}
use Rattle.std.specs.Prelude.{Result, Ok, Err, length, pos, nat_lt, ◌==◌, if◌then◌else◌}
use Rattle.ns_base.specs.declared.place.Place.{Place as SourcePlace}
use Rattle.ns_base.specs.declared.selector.Sel.{Sel}
use Rattle.ns_code.specs.declared.program.CodeProgram.{CodeProgram}
use Rattle.ns_code.specs.declared.own.Own.TheVariants.{DoesNotUnderstand}
use Rattle.ns_code.specs.Selector.{own_number}
use Rattle.ns_world.specs.declared.value.Value.{Value}
use Rattle.ns_world.specs.declared.value.Value.TheVariants as value
use Rattle.ns_world.specs.declared.cell.NewCell.{NewCell}
use Rattle.ns_world.specs.declared.cell.NewCell.TheVariants as new
use Rattle.ns_world.specs.declared.ending.Fault.{Fault}
use Rattle.ns_world.specs.declared.ending.Kind.TheVariants.{WrongArity, WrongKind}
use Rattle.ns_world.specs.declared.ending.LimitKind.{LimitKind}
use Rattle.ns_world.specs.declared.ending.LimitKind.TheVariants.{Steps, Depth, Cells}
use Rattle.ns_world.specs.Cell.{ArrayCell, MessageCell}
use Rattle.ns_world.specs.Heap.{Heap, heap_size, cell_number}
use Rattle.ns_world.specs.World.{World, made, stepped, entered}
use Rattle.ns_world.specs.Starts.{start_of}
use Rattle.ns_find.specs.declared.found.Found.{Found}
use Rattle.ns_find.specs.declared.found.Found.TheVariants as found
use Rattle.ns_find.specs.declared.found.Sending.TheVariants.{Inner}
use Rattle.ns_find.specs.Find.{found_from, super_start}
use Rattle.ns_classes.specs.Nested.{kept_class}
use Rattle.ns_world.specs.declared.kernel_parts.DataRow.{DataRow}
use Rattle.ns_world.specs.declared.kernel_parts.DataRow.TheVariants as values
use Rattle.ns_kdata.specs.Outcome.{RowOutcome, Answers, Fails}
use Rattle.ns_kdata.specs.Arguments.{argument, is_array, items_of, number_of, shape_of_value}
use Rattle.ns_kint.specs.Integer.{integer}
use Rattle.ns_world.specs.declared.kernel_parts.KMethod.{KMethod}
use Rattle.ns_kcode.specs.Rows.{beginning}
use Rattle.ns_world.specs.declared.kernel_parts.FacetRow.{FacetRow}
use Rattle.ns_world.specs.declared.kernel_parts.FacetRow.TheVariants as facets
use Rattle.ns_facets.specs.Facet.{facet as facet_outcome, board_after}
use Rattle.ns_kdata.specs.Rows.{message_selector}
use Rattle.ns_kdata.specs.Datum.{datum}
use Rattle.ns_world.specs.declared.kernel_parts.MirrorRow.{MirrorRow}
use Rattle.ns_world.specs.declared.kernel_parts.MirrorRow.TheVariants as mirrors
use Rattle.ns_mirror.specs.declared.row.Mirrored.TheVariants.{Answer, Perform as MirrorPerform}
use Rattle.ns_mirror.specs.Looking.{enclosing as enclosing_value, mirrored as mirrored_value}
use Rattle.ns_mirror.specs.Mirror.{Reflected, Reflects, Refuses, reflected, mirror}
use Rattle.ns_world.specs.declared.kernel_row.Row.{Row}
use Rattle.ns_world.specs.declared.kernel_row.Row.TheVariants as row
use Rattle.ns_moves.specs.declared.site.Site.{Site}
use Rattle.ns_moves.specs.Control.{Progress, in_world, Activation, FromBody, FromClause, FromMethod, Control, Now, Enter, Evaluate, Begin, Perform, halts, fails, charged}
use Rattle.ns_moves.specs.Bodies.{opened, enclosing, parameters_of, side_at, side_of_body}
use Rattle.ns_moves.specs.Blocks.{block_entered, evaluated, has_arguments, method_begun, turns_of, value_with_arguments}
use Rattle.ns_moves.specs.Classes.{head, nested, instance}
use Rattle.ns_world.specs.KernelTable.{row_at}
use Rattle.ns_moves.specs.Kernel.{outcome_reached, answer_reached, message_refused, data_reached, facet_reached, reflected_reached, row_reached}
use Rattle.ns_moves.specs.Sends.{Target, To, ToPrivate, ToSuper, found_at, receiver_of, site_at, Arguments, Listed, Wrapped, given, one_more, done_with, method_entered, factory_entered, set, nested_in, message_sel, not_found, answered_by, sent}
use Rattle.ns_moves.specs.laws.Onward.{charged_all, opened_all}
use Rattle.ns_audit.proofs.Asking.{Performs, FoundAsks, RowAsks, MirrorAsks, from_asks, own_asks}

-- What control asks of the selector that led there.
abbrev pub ControlAsks : CodeProgram → ℕ → Control → Type 0
ControlAsks code sel (Now after) = Unit {0}
ControlAsks code sel (Enter exit activation locals progress) = Unit {0}
ControlAsks code sel (Evaluate block arguments site progress) = Unit {0}
ControlAsks code sel (Begin method state site progress) = Unit {0}
ControlAsks code sel (Perform receiver name array site progress) = Performs code sel

module _ (code : CodeProgram) (sel : ℕ) where
  abbrev Asks : Control → Type 0
  Asks control = ControlAsks code sel control

  charge_asks : (limit : LimitKind) (o : Option World) (progress : Progress) (go : Progress → Control) →
      ((next : Progress) → Asks (go next)) → Asks (charged halts limit o progress go)
  charge_asks limit o progress go goes = charged_all Asks halts limit o progress go tt (λ world e. goes (in_world progress world))

  opened_asks : (go : Activation → List Value → Progress → Control) (activation : Activation) (arguments : List Value) (progress : Progress) →
      ((running : Activation) (locals : List Value) (next : Progress) → Asks (go running locals next)) → Asks (opened code halts go activation arguments progress)
  opened_asks go activation arguments progress goes =
      opened_all Asks code halts go activation arguments progress tt (λ running locals world moves. goes running locals (in_world progress world))

  given_asks : (arguments : Arguments) (progress : Progress) (go : List Value → Progress → Control) →
      ((values : List Value) (next : Progress) → Asks (go values next)) → Asks (given arguments progress go)
  given_asks (Listed values) progress go goes = goes values progress
  given_asks (Wrapped name values) progress go goes =
      charge_asks Cells (made progress.world (ArrayCell values)) progress
      (λ next. charged halts Cells (made next.world (MessageCell name (value.Ref (heap_size progress.world.cells)))) next (go (value.Ref (heap_size next.world.cells) ∷ [])))
      (λ next. charge_asks Cells (made next.world (MessageCell name (value.Ref (heap_size progress.world.cells)))) next (go (value.Ref (heap_size next.world.cells) ∷ []))
      (λ last. goes (value.Ref (heap_size next.world.cells) ∷ []) last))

  -- ---- members

  method_asks : (body holder : ℕ) (receiver : Value) (arguments : Arguments) (site : Site) (progress : Progress) →
      Asks (method_entered code body holder receiver arguments site progress)
  method_asks body holder receiver arguments site progress =
      charge_asks Depth (entered progress.world) progress
      (λ progress.
      given arguments progress λ values progress.
      opened code halts (λ activation locals progress. Enter FromMethod activation locals (one_more progress))
      (record { self = receiver; holder = holder; body = body; home = progress.begun; env = value.Nil; site = site }) values progress)
      (λ next. given_asks arguments next
      (λ values progress.
      opened code halts (λ activation locals progress. Enter FromMethod activation locals (one_more progress))
      (record { self = receiver; holder = holder; body = body; home = progress.begun; env = value.Nil; site = site }) values progress)
      (λ values last. opened_asks (λ activation locals progress. Enter FromMethod activation locals (one_more progress))
      (record { self = receiver; holder = holder; body = body; home = last.begun; env = value.Nil; site = site }) values last (λ running locals p. tt)))

  instance_asks : (class : ℕ) (arguments : List Value) (site : Site) (progress : Progress) →
      Asks (instance code class arguments site progress)
  instance_asks class arguments site progress =
      charge_asks Cells _ progress _ (λ next. opened_asks (Enter FromBody) _ arguments next (λ running locals p. tt))

  factory_asks : (class : ℕ) (arguments : Arguments) (site : Site) (progress : Progress) →
      Asks (factory_entered code class arguments site progress)
  factory_asks class arguments site progress =
      charge_asks Depth (entered progress.world) progress (λ progress. given arguments progress λ values progress. instance code class values site progress)
      (λ next. given_asks arguments next (λ values progress. instance code class values site progress) (λ values last. instance_asks class values site last))

  set_asks : (word : ℕ) (receiver : Value) (arguments : Arguments) (progress : Progress) → Asks (set word receiver arguments progress)
  set_asks word receiver arguments progress = given_asks arguments progress _ (λ values last. tt)

  head_asks : (object holder class : ℕ) (clause : Option ℕ) (site : Site) (progress : Progress) →
      Asks (head code object holder class clause site progress)
  head_asks object holder class None site progress = tt
  head_asks object holder class (Some clause) site progress =
      charge_asks Depth (entered progress.world) progress _ (λ next. opened_asks (Enter (FromClause object holder class)) _ [] next (λ running locals p. tt))

  nested_asks : (receiver : Value) (holder class : ℕ) (site : Site) (progress : Progress) →
      Asks (nested_in code receiver holder class site progress)
  nested_asks (value.Ref object) holder class site progress = there (kept_class progress.world.cells code object holder class)
    where
      there : (o : Option ℕ) → Asks (nested code object holder class o site progress)
      there (Some kept) = tt
      there None = head_asks object holder class _ site progress
  nested_asks value.Nil holder class site progress = tt
  nested_asks value.True holder class site progress = tt
  nested_asks value.False holder class site progress = tt
  nested_asks (value.Int number) holder class site progress = tt
  nested_asks (value.Sym name) holder class site progress = tt
  nested_asks (value.Kernel kernel) holder class site progress = tt

  -- ---- rows of the kernel

  outcome_asks : (outcome : RowOutcome) (site : Site) (progress : Progress) → Asks (outcome_reached outcome site progress)
  outcome_asks (Answers answer world) site progress = tt
  outcome_asks (Fails fault) site progress = tt

  answer_asks : (result : Result Value Fault) (site : Site) (progress : Progress) → Asks (answer_reached result site progress)
  answer_asks (Ok answer) site progress = tt
  answer_asks (Err fault) site progress = tt

  refused_asks : (outcome : RowOutcome) (selector : Value) (site : Site) (progress : Progress) →
      Asks (message_refused outcome selector site progress)
  refused_asks (Answers answer world) selector site progress = tt
  refused_asks (Fails fault) selector site progress = tt

  datum_asks : (about : DataRow) (receiver : Value) (arguments : List Value) (site : Site) (progress : Progress) →
      Asks (outcome_reached (datum progress.world code about receiver arguments) site progress)
  datum_asks about receiver arguments site progress = outcome_asks (datum progress.world code about receiver arguments) site progress

  data_asks : (about : DataRow) (receiver : Value) (arguments : List Value) (site : Site) (progress : Progress) →
      Asks (data_reached code about receiver arguments site progress)
  data_asks values.DoesNotUnderstand receiver arguments site progress =
      refused_asks (datum progress.world code values.DoesNotUnderstand receiver arguments) (message_selector progress.world.cells (argument arguments 0)) site progress
  data_asks values.Identical receiver arguments site progress = datum_asks values.Identical receiver arguments site progress
  data_asks values.Equal receiver arguments site progress = datum_asks values.Equal receiver arguments site progress
  data_asks values.IsNil receiver arguments site progress = datum_asks values.IsNil receiver arguments site progress
  data_asks values.NotNil receiver arguments site progress = datum_asks values.NotNil receiver arguments site progress
  data_asks values.KernelObject receiver arguments site progress = datum_asks values.KernelObject receiver arguments site progress
  data_asks values.NewObject receiver arguments site progress = datum_asks values.NewObject receiver arguments site progress
  data_asks values.NewArray receiver arguments site progress = datum_asks values.NewArray receiver arguments site progress
  data_asks values.NilPrint receiver arguments site progress = datum_asks values.NilPrint receiver arguments site progress
  data_asks values.Not receiver arguments site progress = datum_asks values.Not receiver arguments site progress
  data_asks values.BooleanPrint receiver arguments site progress = datum_asks values.BooleanPrint receiver arguments site progress
  data_asks values.And receiver arguments site progress = datum_asks values.And receiver arguments site progress
  data_asks values.Or receiver arguments site progress = datum_asks values.Or receiver arguments site progress
  data_asks values.IntegerPrint receiver arguments site progress = datum_asks values.IntegerPrint receiver arguments site progress
  data_asks values.TextSize receiver arguments site progress = datum_asks values.TextSize receiver arguments site progress
  data_asks values.TextAt receiver arguments site progress = datum_asks values.TextAt receiver arguments site progress
  data_asks values.TextCopy receiver arguments site progress = datum_asks values.TextCopy receiver arguments site progress
  data_asks values.TextJoin receiver arguments site progress = datum_asks values.TextJoin receiver arguments site progress
  data_asks values.TextEqual receiver arguments site progress = datum_asks values.TextEqual receiver arguments site progress
  data_asks values.TextLess receiver arguments site progress = datum_asks values.TextLess receiver arguments site progress
  data_asks values.TextPrint receiver arguments site progress = datum_asks values.TextPrint receiver arguments site progress
  data_asks values.SymbolSize receiver arguments site progress = datum_asks values.SymbolSize receiver arguments site progress
  data_asks values.SymbolText receiver arguments site progress = datum_asks values.SymbolText receiver arguments site progress
  data_asks values.SymbolPrint receiver arguments site progress = datum_asks values.SymbolPrint receiver arguments site progress
  data_asks values.SymbolLess receiver arguments site progress = datum_asks values.SymbolLess receiver arguments site progress
  data_asks values.ArraySize receiver arguments site progress = datum_asks values.ArraySize receiver arguments site progress
  data_asks values.ArrayAt receiver arguments site progress = datum_asks values.ArrayAt receiver arguments site progress
  data_asks values.ArrayPut receiver arguments site progress = datum_asks values.ArrayPut receiver arguments site progress
  data_asks values.MessageSelector receiver arguments site progress = datum_asks values.MessageSelector receiver arguments site progress
  data_asks values.MessageArguments receiver arguments site progress = datum_asks values.MessageArguments receiver arguments site progress

  -- a mirror's row that only answers
  reflected_asks : (outcome : RowOutcome) (site : Site) (progress : Progress) → Asks (reflected_reached (reflected outcome) site progress)
  reflected_asks (Answers answer world) site progress = tt
  reflected_asks (Fails fault) site progress = tt

  performed_asks : (outcome : Reflected) (site : Site) (progress : Progress) → Performs code sel →
      Asks (reflected_reached outcome site progress)
  performed_asks (Reflects (Answer answer) world) site progress performs = tt
  performed_asks (Reflects (MirrorPerform receiver name array) world) site progress performs = performs
  performed_asks (Refuses fault) site progress performs = tt

  mirror_asks : (mirrored : MirrorRow) (at : ℕ) (arguments : List Value) (site : Site) (progress : Progress) → MirrorAsks code sel mirrored →
      Asks (reflected_reached (mirror progress.world code mirrored at arguments) site progress)
  mirror_asks mirrors.On at arguments site progress asks = reflected_asks _ site progress
  mirror_asks mirrors.ClassName at arguments site progress asks = reflected_asks _ site progress
  mirror_asks mirrors.SlotNames at arguments site progress asks = reflected_asks _ site progress
  mirror_asks mirrors.Slot at arguments site progress asks = reflected_asks _ site progress
  mirror_asks mirrors.SlotPut at arguments site progress asks = reflected_asks _ site progress
  mirror_asks mirrors.Selectors at arguments site progress asks = reflected_asks _ site progress
  mirror_asks mirrors.Enclosing at arguments site progress asks =
      reflected_asks (Answers (enclosing_value progress.world.cells (mirrored_value progress.world.cells at)) progress.world) site progress
  mirror_asks mirrors.Perform at arguments site progress asks =
      performed_asks (mirror progress.world code mirrors.Perform at arguments) site progress asks

  tested_asks : (b : Bool) (first second : Control) → Asks first → Asks second → Asks (cond b first second)
  tested_asks true first second one other = one
  tested_asks false first second one other = other

  facet_asks : (r : FacetRow) (arguments : List Value) (site : Site) (progress : Progress) →
      Asks (facet_reached code r arguments site progress)
  facet_asks r arguments site progress =
      outcome_asks (facet_outcome progress.world code r arguments progress.board) site (record progress { board = board_after r arguments progress.board })

  begun_asks : (named : KMethod) (receiver first second : Value) (site : Site) (progress : Progress) →
      Asks (method_begun named receiver first second site progress)
  begun_asks named receiver first second site progress =
      let go : Progress → Control = Begin named (beginning receiver first second (pos (turns_of progress.world.cells named receiver))) site in
      tested_asks (has_arguments progress.world.cells named first second) (charged halts Depth (entered progress.world) progress go) (fails WrongKind site progress)
      (charge_asks Depth (entered progress.world) progress go (λ next. tt)) tt

  value_asks : (block array : Value) (site : Site) (progress : Progress) → Asks (value_with_arguments block array site progress)
  value_asks block array site progress =
      let items : List Value = items_of progress.world.cells array in
      let some : Control = if nat_lt 255 (length items) then fails WrongArity site progress else Evaluate block items site progress in
      tested_asks (is_array progress.world.cells array) some (fails WrongKind site progress)
      (tested_asks (nat_lt 255 (length items)) (fails WrongArity site progress) (Evaluate block items site progress) tt tt) tt

  reached_asks : (r : Row) (name : Sel) (receiver : Value) (arguments : List Value) (site : Site) (progress : Progress) → RowAsks code sel r →
      Asks (row_reached code r name receiver arguments site progress)
  reached_asks (row.Data about) name receiver arguments site progress asks = data_asks about receiver arguments site progress
  reached_asks (row.Integer int) name receiver arguments site progress asks =
      answer_asks (integer int (number_of receiver) (argument arguments 0)) site progress
  reached_asks row.Top name receiver arguments site progress asks = facet_asks (facets.Top name) arguments site progress
  reached_asks (row.Facet facet) name receiver arguments site progress asks = facet_asks facet arguments site progress
  reached_asks (row.Mirror mirrored) name receiver arguments site progress asks =
      mirror_asks mirrored (cell_number receiver) arguments site progress asks
  reached_asks (row.Method method) name receiver arguments site progress asks =
      begun_asks method receiver (argument arguments 0) (argument arguments 1) site progress
  reached_asks row.Apply name receiver arguments site progress asks = tt
  reached_asks row.Value name receiver arguments site progress asks = tt
  reached_asks row.ValueWithArguments name receiver arguments site progress asks = value_asks receiver (argument arguments 0) site progress
  reached_asks row.NumArgs name receiver arguments site progress asks = tt

  -- ---- what was found

  done_asks : (f : Found) (name : Sel) (receiver : Value) (arguments : Arguments) (site : Site) (progress : Progress) → FoundAsks code sel f →
      Asks (done_with code f name receiver arguments site progress)
  done_asks (found.Method body holder) name receiver arguments site progress asks = method_asks body holder receiver arguments site progress
  done_asks (found.Getter holder word) name receiver arguments site progress asks = tt
  done_asks (found.Setter holder word) name receiver arguments site progress asks = set_asks word receiver arguments progress
  done_asks (found.Nested class holder) name receiver arguments site progress asks = nested_asks receiver holder class site progress
  done_asks (found.Factory class) name receiver arguments site progress asks = factory_asks class arguments site progress
  done_asks (found.Kernel number) name receiver arguments site progress asks =
      given_asks arguments progress _ (λ values last. reached_asks (row_at number) name receiver values site last asks)
  done_asks found.NotPublic name receiver arguments site progress asks = tt
  done_asks found.Absent name receiver arguments site progress asks = tt

  -- a send that goes on as `doesNotUnderstand:` never performs: the kernel's row of that name is an error
  missing_asks : (f : Found) (name : Sel) (receiver : Value) (values : List Value) (site : Site) (progress : Progress) →
      Asks (not_found code f name receiver values site progress)
  missing_asks (found.Method body holder) name receiver values site progress =
      done_asks (found.Method body holder) (message_sel code) receiver (Wrapped name values) site progress tt
  missing_asks (found.Getter holder word) name receiver values site progress =
      done_asks (found.Getter holder word) (message_sel code) receiver (Wrapped name values) site progress tt
  missing_asks (found.Setter holder word) name receiver values site progress =
      done_asks (found.Setter holder word) (message_sel code) receiver (Wrapped name values) site progress tt
  missing_asks (found.Nested class holder) name receiver values site progress =
      done_asks (found.Nested class holder) (message_sel code) receiver (Wrapped name values) site progress tt
  missing_asks (found.Factory class) name receiver values site progress =
      done_asks (found.Factory class) (message_sel code) receiver (Wrapped name values) site progress tt
  missing_asks (found.Kernel number) name receiver values site progress = tt
  missing_asks found.NotPublic name receiver values site progress = tt
  missing_asks found.Absent name receiver values site progress = tt

  answered_asks : (f : Found) (name : Sel) (receiver : Value) (values : List Value) (site : Site) (progress : Progress) →
      FoundAsks code sel f →
      Asks (answered_by code f name receiver values site progress)
  answered_asks (found.Method body holder) name receiver values site progress asks =
      done_asks (found.Method body holder) name receiver (Listed values) site progress tt
  answered_asks (found.Getter holder word) name receiver values site progress asks = tt
  answered_asks (found.Setter holder word) name receiver values site progress asks =
      done_asks (found.Setter holder word) name receiver (Listed values) site progress tt
  answered_asks (found.Nested class holder) name receiver values site progress asks =
      done_asks (found.Nested class holder) name receiver (Listed values) site progress tt
  answered_asks (found.Factory class) name receiver values site progress asks =
      done_asks (found.Factory class) name receiver (Listed values) site progress tt
  answered_asks (found.Kernel number) name receiver values site progress asks =
      done_asks (found.Kernel number) name receiver (Listed values) site progress asks
  answered_asks found.NotPublic name receiver values site progress asks = tt
  answered_asks found.Absent name receiver values site progress asks =
      missing_asks (found_from progress.world.cells code (start_of progress.world.cells receiver) (own_number code DoesNotUnderstand) Inner) name receiver values site progress

  target_asks : (heap : Heap) (activation : Activation) (target : Target) → FoundAsks code sel (found_at heap code activation target sel)
  target_asks heap activation (To receiver kind) = from_asks code sel heap (start_of heap receiver) kind
  target_asks heap activation (ToPrivate level) =
      own_asks code sel heap (enclosing heap activation level).holder (side_at code activation level)
  target_asks heap activation ToSuper =
      from_asks code sel heap (super_start heap activation.holder (side_of_body code activation.body)) Inner

-- a send of code
pub sent_asks : (code : CodeProgram) (activation : Activation) (target : Target) (sel : Sel) (values : List Value) (place : Option SourcePlace) (progress : Progress) →
    ControlAsks code sel.0 (sent code activation target sel values place progress)
sent_asks code activation target sel values place progress =
    charge_asks code sel.0 Steps (stepped progress.world) progress
    (answered_by code (found_at progress.world.cells code activation target sel.0) sel (receiver_of progress.world.cells activation target) values
    (site_at progress.world.cells place (receiver_of progress.world.cells activation target) sel))
    (λ next. answered_asks code sel.0 (found_at progress.world.cells code activation target sel.0) sel (receiver_of progress.world.cells activation target) values
    (site_at progress.world.cells place (receiver_of progress.world.cells activation target) sel) next (target_asks code sel.0 progress.world.cells activation target))

-- ---- evaluating a block never performs

abbrev pub NeverPerforms : Control → Type 0
NeverPerforms (Now after) = Unit {0}
NeverPerforms (Enter exit activation locals progress) = Unit {0}
NeverPerforms (Evaluate block arguments site progress) = Unit {0}
NeverPerforms (Begin method state site progress) = Unit {0}
NeverPerforms (Perform receiver name array site progress) = ⊥

tested_never : (b : Bool) (first second : Control) → NeverPerforms first → NeverPerforms second → NeverPerforms (cond b first second)
tested_never true first second one other = one
tested_never false first second one other = other

entered_never : (code : CodeProgram) (cell : NewCell) (arguments : List Value) (site : Site) (progress : Progress) →
    NeverPerforms (block_entered code cell arguments site progress)
entered_never code (new.Block body env home receiver holder) arguments site progress =
    tested_never (length arguments == parameters_of code body) (charged halts Steps (stepped progress.world) progress go) (fails WrongArity site progress)
    (charged_all NeverPerforms halts Steps (stepped progress.world) progress go tt (λ world e. goes (in_world progress world))) tt
  where
    running : Activation
    running = record { self = receiver; holder = holder; body = body; home = home; env = env; site = site }

    go : Progress → Control
    go next = charged halts Depth (entered next.world) next (opened code halts (Enter FromBody) running arguments)

    goes : (next : Progress) → NeverPerforms (go next)
    goes next =
        charged_all NeverPerforms halts Depth (entered next.world) next (opened code halts (Enter FromBody) running arguments) tt
        (λ world e. opened_all NeverPerforms code halts (Enter FromBody) running arguments (in_world next world) tt (λ at locals w moves. tt))
entered_never code (new.Object class words) arguments site progress = tt
entered_never code (new.Class decl base encl holder over) arguments site progress = tt
entered_never code (new.Environment parent locals) arguments site progress = tt
entered_never code (new.Array size) arguments site progress = tt
entered_never code (new.Text bytes) arguments site progress = tt
entered_never code (new.Facet kind) arguments site progress = tt
entered_never code (new.Mirror mirrored) arguments site progress = tt
entered_never code (new.Message name args) arguments site progress = tt

pub evaluated_never : (code : CodeProgram) (block : Value) (arguments : List Value) (site : Site) (progress : Progress) →
    NeverPerforms (evaluated code block arguments site progress)
evaluated_never code block arguments site progress = entered_never code (shape_of_value progress.world.cells block) arguments site progress
