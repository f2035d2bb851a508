-- What each action charges.
use Rattle.std.proofs.Common.{◌≡◌, inl, ℕ, List, [], ◌∷◌, length, replicate, refl, ◌∙◌, arith, Option, Some, None, Bool, true, false, cond, eqb}
use Rattle.std.specs.Prelude.{Result, Ok, Err, pos, nat_lt, codes}
use Rattle.std.specs.Str.{bytes_eq}
use Rattle.ns_base.specs.declared.selector.Sel.{Sel}
use Rattle.ns_code.specs.declared.program.CodeProgram.{CodeProgram}
use Rattle.ns_code.specs.declared.own.Own.TheVariants.{DoesNotUnderstand}
use Rattle.ns_code.specs.Selector.{own_number, selector_text}
use Rattle.ns_world.specs.declared.value.Value.{Value}
use Rattle.ns_world.specs.declared.value.Value.TheVariants as value
use Rattle.ns_world.specs.declared.value.KClass.TheVariants.{Object}
use Rattle.ns_world.specs.declared.ending.Ending.{Ending}
use Rattle.ns_world.specs.declared.ending.Ending.TheVariants.{Limit}
use Rattle.ns_world.specs.declared.ending.Fault.{Fault}
use Rattle.ns_world.specs.declared.ending.Kind.TheVariants.{WrongArity, WrongKind, InitMismatch}
use Rattle.ns_world.specs.declared.ending.LimitKind.TheVariants.{Steps, Depth, Cells}
use Rattle.ns_world.specs.declared.cell.NewCell.{NewCell}
use Rattle.ns_world.specs.declared.cell.NewCell.TheVariants as new
use Rattle.ns_world.specs.Cell.{Cell, ObjectCell, BlockCell, ArrayCell, TextCell, MessageCell}
use Rattle.ns_world.specs.Heap.{heap_size, find_cell, superclass_in, cell_number}
use Rattle.ns_world.specs.World.{World, made, stepped, entered, left, written, stored}
use Rattle.ns_world.specs.Layout.{declaration_of, layout_of, entry_word}
use Rattle.ns_world.specs.Starts.{start_of}
use Rattle.ns_classes.specs.declared.apply.MakeFault.{MakeFault}
use Rattle.ns_classes.specs.Apply.{class_fault, class_cell}
use Rattle.ns_classes.specs.Nested.{kept_class}
use Rattle.ns_find.specs.declared.found.Found.{Found}
use Rattle.ns_find.specs.declared.found.Found.TheVariants as found
use Rattle.ns_find.specs.declared.found.Sending.TheVariants.{Plain, Inner}
use Rattle.ns_find.specs.Find.{found_from}
use Rattle.ns_kint.specs.Integer.{integer}
use Rattle.ns_world.specs.declared.kernel_parts.DataRow.{DataRow}
use Rattle.ns_world.specs.declared.kernel_parts.DataRow.TheVariants as values
use Rattle.ns_kdata.specs.Outcome.{RowOutcome, Answers, Fails}
use Rattle.ns_kdata.specs.Arguments.{argument, number_of, items_of, is_array, shape_of_value}
use Rattle.ns_kdata.specs.Rows.{message_selector}
use Rattle.ns_kdata.specs.Datum.{datum}
use Rattle.ns_kdata.specs.Leading.{HoldsAfter}
use Rattle.ns_kdata.specs.laws.Leading.{data_leads}
use Rattle.ns_world.specs.declared.kernel_parts.FacetRow.{FacetRow}
use Rattle.ns_world.specs.declared.kernel_parts.FacetRow.TheVariants as facet
use Rattle.ns_facets.specs.Facet.{facet as facet_outcome, board_after}
use Rattle.ns_facets.specs.laws.Leading.{facet_leads}
use Rattle.ns_mirror.specs.declared.row.Mirrored.TheVariants.{Answer, Perform}
use Rattle.ns_mirror.specs.Looking.{mirrored}
use Rattle.ns_mirror.specs.Mirror.{Reflected, Reflects, Refuses, mirror}
use Rattle.ns_mirror.specs.Leading.{ReflectsTo}
use Rattle.ns_mirror.specs.laws.Leading.{mirror_leads}
use Rattle.ns_world.specs.declared.kernel_parts.KMethod.{KMethod}
use Rattle.ns_kcode.specs.declared.state.KState.{KState}
use Rattle.ns_kcode.specs.declared.state.KAction.{KAction}
use Rattle.ns_kcode.specs.declared.state.KAction.TheVariants as action
use Rattle.ns_kcode.specs.Next.{next}
use Rattle.ns_kcode.specs.Rows.{beginning}
use Rattle.ns_world.specs.declared.kernel_row.Row.{Row}
use Rattle.ns_world.specs.declared.kernel_row.Row.TheVariants as row
use Rattle.ns_moves.specs.declared.site.Site.{Site}
use Rattle.ns_moves.specs.Site.{error}
use Rattle.ns_moves.specs.Control.{Progress, in_world, Activation, Exit, FromMethod, FromBody, FromClause, After, Gives, Halts, Control, Now, Enter, Evaluate}
use Rattle.ns_moves.specs.Control.{Begin, Skip, Stop, EnterPart, Waiting, Waits, Finishes, halts, fails, charged}
use Rattle.ns_moves.specs.Bodies.{parameters_of, initialiser_of, clause_of, no_home, opened, is_beside, environment_at}
use Rattle.ns_moves.specs.Classes.{class_made, mixed, keeping, newly_kept, kept_or, class_over, head, nested, instance, super_selector, factory_selector, declared_part, object_part, part_of, body_ended}
use Rattle.ns_moves.specs.Blocks.{new_cell, block_entered, value_with_arguments, has_arguments, turns_of, method_begun, listed, waiting, turned, item_at, acted}
use Rattle.ns_world.specs.KernelTable.{row_at}
use Rattle.ns_moves.specs.Kernel.{outcome_reached, answer_reached, reflected_reached, facet_reached, message_refused, data_reached, row_reached}
use Rattle.ns_moves.specs.Sends.{Arguments, Listed, Wrapped, given, first_of, one_more, method_entered, factory_entered, set, nested_in, done_with, not_found, answered_by, receiver_of, found_at, site_at}
use Rattle.ns_moves.specs.Actions.{Action, Sends, SendsPlain, Performs, Evaluates, Continues, BeginsPart, EndsPart, EndsBody, MakesBlock, MakesText, MakesArray, FillsSlot, StoresLocal}
use Rattle.ns_moves.specs.Spending.{Charged, ControlSpends, PartSpends, WaitingSpends, CellSpends, EndSpends, turn_steps, action_steps, Spends}
use Rattle.ns_moves.specs.laws.Onward.{charged_all}
use Rattle.ns_moves.specs.laws.Counting.{SameCounts, counts_not, counts_on, made_counts, stored_counts, counts_allow, counts_write, nothing_charged}
use Rattle.ns_moves.specs.laws.Counting.{still_charged, step_charged, frame_charged, back_given, still_given, stopped_here, stopped_framed, opened_counts}

-- ---- rows of the kernel

outcome_spends : (steps : ℕ) (old : Progress) (outcome : RowOutcome) (site : Site) (progress : Progress) → Charged steps 0 0 old progress →
    HoldsAfter (SameCounts progress.world) outcome → ControlSpends steps old (outcome_reached outcome site progress)
outcome_spends steps old (Answers answer world) site progress was same = still_charged steps 0 0 old progress world was same
outcome_spends steps old (Fails fault) site progress was same = stopped_here steps old progress was

answer_spends : (steps : ℕ) (old : Progress) (r : Result Value Fault) (site : Site) (progress : Progress) → Charged steps 0 0 old progress →
    ControlSpends steps old (answer_reached r site progress)
answer_spends steps old (Ok answer) site progress was = was
answer_spends steps old (Err fault) site progress was = stopped_here steps old progress was

reflected_spends : (steps : ℕ) (old : Progress) (r : Reflected) (site : Site) (progress : Progress) → Charged steps 0 0 old progress →
    ReflectsTo (SameCounts progress.world) r → ControlSpends steps old (reflected_reached r site progress)
reflected_spends steps old (Reflects (Answer answer) world) site progress was same = still_charged steps 0 0 old progress world was same
reflected_spends steps old (Reflects (Perform receiver sel array) world) site progress was same =
    still_charged steps 0 0 old progress world was same
reflected_spends steps old (Refuses fault) site progress was same = stopped_here steps old progress was

refused_spends : (steps : ℕ) (old : Progress) (outcome : RowOutcome) (selector : Value) (site : Site) (progress : Progress) →
    Charged steps 0 0 old progress → HoldsAfter (SameCounts progress.world) outcome →
    ControlSpends steps old (message_refused outcome selector site progress)
refused_spends steps old (Answers answer world) selector site progress was same = still_charged steps 0 0 old progress world was same
refused_spends steps old (Fails fault) selector site progress was same = stopped_here steps old progress was

datum_counts : (code : CodeProgram) (r : DataRow) (receiver : Value) (arguments : List Value) (progress : Progress) →
    HoldsAfter (SameCounts progress.world) (datum progress.world code r receiver arguments)
datum_counts code r receiver arguments progress =
    data_leads (SameCounts progress.world) progress.world (counts_allow progress.world) code r receiver (argument arguments 0) (argument arguments 1) (counts_write progress.world receiver)

data_spends :
    (steps : ℕ) (old : Progress) (code : CodeProgram) (r : DataRow) (receiver : Value) (arguments : List Value) (site : Site) (progress : Progress) →
    Charged steps 0 0 old progress → ControlSpends steps old (data_reached code r receiver arguments site progress)
data_spends steps old code values.DoesNotUnderstand receiver arguments site progress was =
    refused_spends steps old (datum progress.world code values.DoesNotUnderstand receiver arguments) (message_selector progress.world.cells (argument arguments 0)) site progress was (datum_counts code values.DoesNotUnderstand receiver arguments progress)
data_spends steps old code values.Identical receiver arguments site progress was =
    outcome_spends steps old (datum progress.world code values.Identical receiver arguments) site progress was (datum_counts code values.Identical receiver arguments progress)
data_spends steps old code values.Equal receiver arguments site progress was =
    outcome_spends steps old (datum progress.world code values.Equal receiver arguments) site progress was (datum_counts code values.Equal receiver arguments progress)
data_spends steps old code values.IsNil receiver arguments site progress was =
    outcome_spends steps old (datum progress.world code values.IsNil receiver arguments) site progress was (datum_counts code values.IsNil receiver arguments progress)
data_spends steps old code values.NotNil receiver arguments site progress was =
    outcome_spends steps old (datum progress.world code values.NotNil receiver arguments) site progress was (datum_counts code values.NotNil receiver arguments progress)
data_spends steps old code values.KernelObject receiver arguments site progress was =
    outcome_spends steps old (datum progress.world code values.KernelObject receiver arguments) site progress was (datum_counts code values.KernelObject receiver arguments progress)
data_spends steps old code values.NewObject receiver arguments site progress was =
    outcome_spends steps old (datum progress.world code values.NewObject receiver arguments) site progress was (datum_counts code values.NewObject receiver arguments progress)
data_spends steps old code values.NewArray receiver arguments site progress was =
    outcome_spends steps old (datum progress.world code values.NewArray receiver arguments) site progress was (datum_counts code values.NewArray receiver arguments progress)
data_spends steps old code values.NilPrint receiver arguments site progress was =
    outcome_spends steps old (datum progress.world code values.NilPrint receiver arguments) site progress was (datum_counts code values.NilPrint receiver arguments progress)
data_spends steps old code values.Not receiver arguments site progress was =
    outcome_spends steps old (datum progress.world code values.Not receiver arguments) site progress was (datum_counts code values.Not receiver arguments progress)
data_spends steps old code values.BooleanPrint receiver arguments site progress was =
    outcome_spends steps old (datum progress.world code values.BooleanPrint receiver arguments) site progress was (datum_counts code values.BooleanPrint receiver arguments progress)
data_spends steps old code values.And receiver arguments site progress was =
    outcome_spends steps old (datum progress.world code values.And receiver arguments) site progress was (datum_counts code values.And receiver arguments progress)
data_spends steps old code values.Or receiver arguments site progress was =
    outcome_spends steps old (datum progress.world code values.Or receiver arguments) site progress was (datum_counts code values.Or receiver arguments progress)
data_spends steps old code values.IntegerPrint receiver arguments site progress was =
    outcome_spends steps old (datum progress.world code values.IntegerPrint receiver arguments) site progress was (datum_counts code values.IntegerPrint receiver arguments progress)
data_spends steps old code values.TextSize receiver arguments site progress was =
    outcome_spends steps old (datum progress.world code values.TextSize receiver arguments) site progress was (datum_counts code values.TextSize receiver arguments progress)
data_spends steps old code values.TextAt receiver arguments site progress was =
    outcome_spends steps old (datum progress.world code values.TextAt receiver arguments) site progress was (datum_counts code values.TextAt receiver arguments progress)
data_spends steps old code values.TextCopy receiver arguments site progress was =
    outcome_spends steps old (datum progress.world code values.TextCopy receiver arguments) site progress was (datum_counts code values.TextCopy receiver arguments progress)
data_spends steps old code values.TextJoin receiver arguments site progress was =
    outcome_spends steps old (datum progress.world code values.TextJoin receiver arguments) site progress was (datum_counts code values.TextJoin receiver arguments progress)
data_spends steps old code values.TextEqual receiver arguments site progress was =
    outcome_spends steps old (datum progress.world code values.TextEqual receiver arguments) site progress was (datum_counts code values.TextEqual receiver arguments progress)
data_spends steps old code values.TextLess receiver arguments site progress was =
    outcome_spends steps old (datum progress.world code values.TextLess receiver arguments) site progress was (datum_counts code values.TextLess receiver arguments progress)
data_spends steps old code values.TextPrint receiver arguments site progress was =
    outcome_spends steps old (datum progress.world code values.TextPrint receiver arguments) site progress was (datum_counts code values.TextPrint receiver arguments progress)
data_spends steps old code values.SymbolSize receiver arguments site progress was =
    outcome_spends steps old (datum progress.world code values.SymbolSize receiver arguments) site progress was (datum_counts code values.SymbolSize receiver arguments progress)
data_spends steps old code values.SymbolText receiver arguments site progress was =
    outcome_spends steps old (datum progress.world code values.SymbolText receiver arguments) site progress was (datum_counts code values.SymbolText receiver arguments progress)
data_spends steps old code values.SymbolPrint receiver arguments site progress was =
    outcome_spends steps old (datum progress.world code values.SymbolPrint receiver arguments) site progress was (datum_counts code values.SymbolPrint receiver arguments progress)
data_spends steps old code values.SymbolLess receiver arguments site progress was =
    outcome_spends steps old (datum progress.world code values.SymbolLess receiver arguments) site progress was (datum_counts code values.SymbolLess receiver arguments progress)
data_spends steps old code values.ArraySize receiver arguments site progress was =
    outcome_spends steps old (datum progress.world code values.ArraySize receiver arguments) site progress was (datum_counts code values.ArraySize receiver arguments progress)
data_spends steps old code values.ArrayAt receiver arguments site progress was =
    outcome_spends steps old (datum progress.world code values.ArrayAt receiver arguments) site progress was (datum_counts code values.ArrayAt receiver arguments progress)
data_spends steps old code values.ArrayPut receiver arguments site progress was =
    outcome_spends steps old (datum progress.world code values.ArrayPut receiver arguments) site progress was (datum_counts code values.ArrayPut receiver arguments progress)
data_spends steps old code values.MessageSelector receiver arguments site progress was =
    outcome_spends steps old (datum progress.world code values.MessageSelector receiver arguments) site progress was (datum_counts code values.MessageSelector receiver arguments progress)
data_spends steps old code values.MessageArguments receiver arguments site progress was =
    outcome_spends steps old (datum progress.world code values.MessageArguments receiver arguments) site progress was (datum_counts code values.MessageArguments receiver arguments progress)

facet_spends :
    (steps : ℕ) (old : Progress) (code : CodeProgram) (r : FacetRow) (arguments : List Value) (site : Site) (progress : Progress) →
    Charged steps 0 0 old progress → ControlSpends steps old (facet_reached code r arguments site progress)
facet_spends steps old code r arguments site progress was =
    let next : Progress = record progress { board = board_after r arguments progress.board } in
    let here : Charged steps 0 0 old next = record { steps = was.steps; depth = was.depth; begun = was.begun } in
    outcome_spends steps old (facet_outcome progress.world code r arguments progress.board) site next here
    (facet_leads (SameCounts progress.world) progress.world (counts_allow progress.world) code r (argument arguments 0) (argument arguments 1) progress.board)

-- ---- classes

made_all : (P : After → Type 0) (cell : Cell) (fault : Option MakeFault) (site : Site) (progress : Progress) (go : ℕ → Progress → After) →
    ((ending : Ending) → P (Halts ending progress))
    → ((number : ℕ) (world : World) → SameCounts progress.world world → P (go number (in_world progress world))) → P (class_made cell fault site progress go)
made_all P cell (Some fault) site progress go stops goes = stops _
made_all P cell None site progress go stops goes =
    charged_all P Halts Cells (made progress.world cell) progress (go (heap_size progress.world.cells)) (stops (Limit Cells))
    (λ world e. goes (heap_size progress.world.cells) world (made_counts progress.world world cell e))

over_all : (P : After → Type 0) (code : CodeProgram) (object holder class : ℕ) (over : Value) (site : Site) (progress : Progress) →
    ((ending : Ending) → P (Halts ending progress))
    → ((answer : Value) (world : World) → SameCounts progress.world world → P (Gives answer (in_world progress world))) → P (class_over code object holder class over site progress)
over_all P code object holder class over site progress stops goes = kept (kept_class progress.world.cells code object holder class)
  where
    kept : (o : Option ℕ) → P (kept_or o progress (newly_kept code object holder class over site progress))
    kept (Some number) = goes (value.Ref number) progress.world (counts_not progress.world)
    kept None =
        made_all P (class_cell progress.world.cells code class (value.Ref object) (value.Ref holder) over) (class_fault progress.world.cells over) site progress
        (λ number progress. Gives (value.Ref number) (in_world progress (keeping code object holder class number progress.world))) stops
        (λ number world same. goes (value.Ref number) (keeping code object holder class number world) (record { steps = same.steps; depth = same.depth }))

mixed_spends : (code : CodeProgram) (steps : ℕ) (old : Progress) (cell : NewCell) (over : Value) (site : Site) (progress : Progress)
    → Charged steps 0 0 old progress → ControlSpends steps old (Now (mixed code cell over site progress))
mixed_spends code steps old (new.Class decl base encl holder under) over site progress was =
    let heap = progress.world.cells in
    made_all (λ after. ControlSpends steps old (Now after)) (class_cell heap code decl encl holder over) (class_fault heap over) site progress
    (λ number progress. Gives (value.Ref number) progress)
    (λ ending. stopped_here steps old progress was) (λ number world same. still_charged steps 0 0 old progress world was same)
mixed_spends code steps old (new.Object class words) over site progress was = stopped_here steps old progress was
mixed_spends code steps old (new.Block body env home receiver holder) over site progress was = stopped_here steps old progress was
mixed_spends code steps old (new.Environment parent locals) over site progress was = stopped_here steps old progress was
mixed_spends code steps old (new.Array size) over site progress was = stopped_here steps old progress was
mixed_spends code steps old (new.Text bytes) over site progress was = stopped_here steps old progress was
mixed_spends code steps old (new.Facet kind) over site progress was = stopped_here steps old progress was
mixed_spends code steps old (new.Mirror shown) over site progress was = stopped_here steps old progress was
mixed_spends code steps old (new.Message sel args) over site progress was = stopped_here steps old progress was

head_spends :
    (steps : ℕ) (old : Progress) (code : CodeProgram) (object holder class : ℕ) (clause : Option ℕ) (site : Site) (progress : Progress) →
    Charged steps 0 0 old progress → ControlSpends steps old (head code object holder class clause site progress)
head_spends steps old code object holder class None site progress was =
    over_all (λ after. ControlSpends steps old (Now after)) code object holder class (value.Kernel Object) site progress (λ ending. stopped_here steps old progress was)
    (λ answer world same. still_charged steps 0 0 old progress world was same)
head_spends steps old code object holder class (Some clause) site progress was =
    charged_all (ControlSpends steps old) halts Depth (entered progress.world) progress (opened code halts (Enter (FromClause object holder class)) inner []) (stopped_here steps old progress was)
    (λ world e. let framed = frame_charged steps old progress world was e in
    opened_counts (ControlSpends steps old) code halts (Enter (FromClause object holder class)) inner [] (in_world progress world) (stopped_framed steps old (in_world progress world) framed)
    (λ running locals next same home. still_charged steps 1 0 old (in_world progress world) next framed same))
  where
    inner : Activation
    inner = record { self = value.Ref object; holder = holder; body = clause; home = no_home; env = value.Nil; site = site }

nested_spends :
    (steps : ℕ) (old : Progress) (code : CodeProgram) (receiver : Value) (holder class : ℕ) (site : Site) (progress : Progress) →
    Charged steps 0 0 old progress → ControlSpends steps old (nested_in code receiver holder class site progress)
nested_spends steps old code (value.Ref object) holder class site progress was =
    kept (kept_class progress.world.cells code object holder class)
  where
    kept : (o : Option ℕ) → ControlSpends steps old (nested code object holder class o site progress)
    kept (Some number) = was
    kept None = head_spends steps old code object holder class (clause_of code class) site progress was
nested_spends steps old code value.Nil holder class site progress was = stopped_here steps old progress was
nested_spends steps old code value.True holder class site progress was = stopped_here steps old progress was
nested_spends steps old code value.False holder class site progress was = stopped_here steps old progress was
nested_spends steps old code (value.Int number) holder class site progress was = stopped_here steps old progress was
nested_spends steps old code (value.Sym sel) holder class site progress was = stopped_here steps old progress was
nested_spends steps old code (value.Kernel kernel) holder class site progress was = stopped_here steps old progress was

-- an instance whose frame is charged
instance_spends :
    (steps : ℕ) (old : Progress) (code : CodeProgram) (class : ℕ) (arguments : List Value) (site : Site) (progress : Progress) →
    Charged steps 1 0 old progress → ControlSpends steps old (instance code class arguments site progress)
instance_spends steps old code class arguments site progress was =
    charged_all (ControlSpends steps old) halts Cells (made progress.world object) progress (opened code halts (Enter FromBody) inner arguments) (stopped_framed steps old progress was)
    (λ world e. let next = still_charged steps 1 0 old progress world was (made_counts progress.world world object e) in
    opened_counts (ControlSpends steps old) code halts (Enter FromBody) inner arguments (in_world progress world) (stopped_framed steps old (in_world progress world) next)
    (λ running locals last same home. still_charged steps 1 0 old (in_world progress world) last next same))
  where
    object : Cell
    object = ObjectCell class (replicate (layout_of progress.world.cells code class) value.Nil)

    inner : Activation
    inner = record { self = value.Ref (heap_size progress.world.cells); holder = class; body = initialiser_of code (declaration_of progress.world.cells class); home = no_home; env = value.Nil; site = site }

-- ---- blocks

array_spends : (steps : ℕ) (old : Progress) (block array : Value) (site : Site) (progress : Progress) → Charged steps 0 0 old progress →
    ControlSpends steps old (value_with_arguments block array site progress)
array_spends steps old block array site progress was =
    tested (is_array progress.world.cells array) (nat_lt 255 (length (items_of progress.world.cells array)))
  where
    tested : (b c : Bool) → ControlSpends steps old (cond b (cond c (fails WrongArity site progress) (Evaluate block (items_of progress.world.cells array) site progress)) (fails WrongKind site progress))
    tested true true = stopped_here steps old progress was
    tested true false = was
    tested false c = stopped_here steps old progress was

begun_spends : (steps : ℕ) (old : Progress) (method : KMethod) (receiver first second : Value) (site : Site) (progress : Progress) →
    Charged steps 0 0 old progress → ControlSpends steps old (method_begun method receiver first second site progress)
begun_spends steps old method receiver first second site progress was = tested (has_arguments progress.world.cells method first second)
  where
    go : Progress → Control
    go = Begin method (beginning receiver first second (pos (turns_of progress.world.cells method receiver))) site

    tested : (b : Bool) → ControlSpends steps old (cond b (charged halts Depth (entered progress.world) progress go) (fails WrongKind site progress))
    tested true = charged_all (ControlSpends steps old) halts Depth (entered progress.world) progress go (stopped_here steps old progress was) (λ world e. frame_charged steps old progress world was e)
    tested false = stopped_here steps old progress was

row_spends :
    (steps : ℕ) (old : Progress) (code : CodeProgram) (r : Row) (sel : Sel) (receiver : Value) (arguments : List Value) (site : Site) (progress : Progress) →
    Charged steps 0 0 old progress → ControlSpends steps old (row_reached code r sel receiver arguments site progress)
row_spends steps old code (row.Data d) sel receiver arguments site progress was =
    data_spends steps old code d receiver arguments site progress was
row_spends steps old code (row.Integer i) sel receiver arguments site progress was =
    answer_spends steps old (integer i (number_of receiver) (argument arguments 0)) site progress was
row_spends steps old code row.Top sel receiver arguments site progress was =
    facet_spends steps old code (facet.Top sel) arguments site progress was
row_spends steps old code (row.Facet f) sel receiver arguments site progress was = facet_spends steps old code f arguments site progress was
row_spends steps old code (row.Mirror m) sel receiver arguments site progress was =
    let shown : Value = mirrored progress.world.cells (cell_number receiver) in
    reflected_spends steps old (mirror progress.world code m (cell_number receiver) arguments) site progress was
    (mirror_leads (SameCounts progress.world) progress.world (counts_allow progress.world) code m shown (argument arguments 0) (argument arguments 1) (counts_write progress.world shown))
row_spends steps old code (row.Method m) sel receiver arguments site progress was =
    begun_spends steps old m receiver (argument arguments 0) (argument arguments 1) site progress was
row_spends steps old code row.Apply sel receiver arguments site progress was =
    mixed_spends code steps old (shape_of_value progress.world.cells receiver) (argument arguments 0) site progress was
row_spends steps old code row.Value sel receiver arguments site progress was = was
row_spends steps old code row.ValueWithArguments sel receiver arguments site progress was =
    array_spends steps old receiver (argument arguments 0) site progress was
row_spends steps old code row.NumArgs sel receiver arguments site progress was = was

-- ---- members

given_counts : (P : Control → Type 0) (arguments : Arguments) (progress : Progress) (go : List Value → Progress → Control) →
    ((world : World) → SameCounts progress.world world → P (halts (Limit Cells) (in_world progress world)))
    → ((values : List Value) (world : World) → SameCounts progress.world world → P (go values (in_world progress world))) → P (given arguments progress go)
given_counts P (Listed values) progress go stops goes = goes values progress.world (counts_not progress.world)
given_counts P (Wrapped sel values) progress go stops goes =
    charged_all P halts Cells (made progress.world (ArrayCell values)) progress _ (stops progress.world (counts_not progress.world))
    (λ world e. let one = made_counts progress.world world (ArrayCell values) e in
    charged_all P halts Cells (made world (MessageCell sel (value.Ref (heap_size progress.world.cells)))) (in_world progress world) _ (stops world one)
    (λ next m. goes _ next (counts_on progress.world world next one (made_counts world next (MessageCell sel (value.Ref (heap_size progress.world.cells))) m))))

method_spends :
    (steps : ℕ) (old : Progress) (code : CodeProgram) (body holder : ℕ) (receiver : Value) (arguments : Arguments) (site : Site) (progress : Progress) →
    Charged steps 0 0 old progress → ControlSpends steps old (method_entered code body holder receiver arguments site progress)
method_spends steps old code body holder receiver arguments site progress was =
    charged_all (ControlSpends steps old) halts Depth (entered progress.world) progress _ (stopped_here steps old progress was)
    (λ world e. let framed = frame_charged steps old progress world was e in
    given_counts (ControlSpends steps old) arguments (in_world progress world) _
    (λ next same. stopped_framed steps old (in_world progress next) (still_charged steps 1 0 old (in_world progress world) next framed same))
    (λ values next same. let ready = still_charged steps 1 0 old (in_world progress world) next framed same in
    opened_counts (ControlSpends steps old) code halts (λ activation locals progress. Enter FromMethod activation locals (one_more progress))
    (record { self = receiver; holder = holder; body = body; home = progress.begun; env = value.Nil; site = site }) values (in_world progress next) (stopped_framed steps old (in_world progress next) ready)
    (λ running locals last more home.
    let end = still_charged steps 1 0 old (in_world progress next) last ready more in
    (record { steps = end.steps; depth = end.depth; begun = omega (arith, end.begun) }, home ∙ omega (arith, was.begun)))))

factory_spends : (steps : ℕ) (old : Progress) (code : CodeProgram) (class : ℕ) (arguments : Arguments) (site : Site) (progress : Progress) →
    Charged steps 0 0 old progress → ControlSpends steps old (factory_entered code class arguments site progress)
factory_spends steps old code class arguments site progress was =
    charged_all (ControlSpends steps old) halts Depth (entered progress.world) progress _ (stopped_here steps old progress was)
    (λ world e. let framed = frame_charged steps old progress world was e in
    given_counts (ControlSpends steps old) arguments (in_world progress world) (λ values progress. instance code class values site progress)
    (λ next same. stopped_framed steps old (in_world progress next) (still_charged steps 1 0 old (in_world progress world) next framed same))
    (λ values next same. instance_spends steps old code class values site (in_world progress next) (still_charged steps 1 0 old (in_world progress world) next framed same)))

set_spends : (steps : ℕ) (old : Progress) (word : ℕ) (receiver : Value) (arguments : Arguments) (progress : Progress) →
    Charged steps 0 0 old progress → ControlSpends steps old (set word receiver arguments progress)
set_spends steps old word receiver arguments progress was =
    given_counts (ControlSpends steps old) arguments progress _
    (λ world same. stopped_here steps old (in_world progress world) (still_charged steps 0 0 old progress world was same))
    (λ values world same. still_charged steps 0 0 old progress (stored world receiver word (first_of values)) was
    (counts_on progress.world world (stored world receiver word (first_of values)) same (stored_counts world receiver word (first_of values))))

-- a member with its arguments as they stand
listed_spends :
    (steps : ℕ) (old : Progress) (code : CodeProgram) (member : Found) (sel : Sel) (receiver : Value) (values : List Value) (site : Site) (progress : Progress) →
    Charged steps 0 0 old progress → ControlSpends steps old (done_with code member sel receiver (Listed values) site progress)
listed_spends steps old code (found.Method body holder) sel receiver values site progress was =
    method_spends steps old code body holder receiver (Listed values) site progress was
listed_spends steps old code (found.Getter holder word) sel receiver values site progress was = was
listed_spends steps old code (found.Setter holder word) sel receiver values site progress was =
    set_spends steps old word receiver (Listed values) progress was
listed_spends steps old code (found.Nested class holder) sel receiver values site progress was =
    nested_spends steps old code receiver holder class site progress was
listed_spends steps old code (found.Factory class) sel receiver values site progress was =
    factory_spends steps old code class (Listed values) site progress was
listed_spends steps old code (found.Kernel number) sel receiver values site progress was =
    row_spends steps old code (row_at number) sel receiver values site progress was
listed_spends steps old code found.NotPublic sel receiver values site progress was = stopped_here steps old progress was
listed_spends steps old code found.Absent sel receiver values site progress was = stopped_here steps old progress was

-- a send that found nothing
absent_spends :
    (steps : ℕ) (old : Progress) (code : CodeProgram) (member : Found) (sel : Sel) (receiver : Value) (values : List Value) (site : Site) (progress : Progress) →
    Charged steps 0 0 old progress → ControlSpends steps old (not_found code member sel receiver values site progress)
absent_spends steps old code (found.Method body holder) sel receiver values site progress was =
    method_spends steps old code body holder receiver (Wrapped sel values) site progress was
absent_spends steps old code (found.Getter holder word) sel receiver values site progress was = was
absent_spends steps old code (found.Setter holder word) sel receiver values site progress was =
    set_spends steps old word receiver (Wrapped sel values) progress was
absent_spends steps old code (found.Nested class holder) sel receiver values site progress was =
    nested_spends steps old code receiver holder class site progress was
absent_spends steps old code (found.Factory class) sel receiver values site progress was =
    factory_spends steps old code class (Wrapped sel values) site progress was
absent_spends steps old code (found.Kernel number) sel receiver values site progress was = stopped_here steps old progress was
absent_spends steps old code found.NotPublic sel receiver values site progress was = stopped_here steps old progress was
absent_spends steps old code found.Absent sel receiver values site progress was = stopped_here steps old progress was

-- What a member answers charges no further step.
pub answered_spends :
    (steps : ℕ) (old : Progress) (code : CodeProgram) (member : Found) (sel : Sel) (receiver : Value) (values : List Value) (site : Site) (progress : Progress) →
    Charged steps 0 0 old progress → ControlSpends steps old (answered_by code member sel receiver values site progress)
answered_spends steps old code found.Absent sel receiver values site progress was =
    absent_spends steps old code (found_from progress.world.cells code (start_of progress.world.cells receiver) (own_number code DoesNotUnderstand) Inner) sel receiver values site progress was
answered_spends steps old code (found.Method body holder) sel receiver values site progress was =
    listed_spends steps old code (found.Method body holder) sel receiver values site progress was
answered_spends steps old code (found.Getter holder word) sel receiver values site progress was =
    listed_spends steps old code (found.Getter holder word) sel receiver values site progress was
answered_spends steps old code (found.Setter holder word) sel receiver values site progress was =
    listed_spends steps old code (found.Setter holder word) sel receiver values site progress was
answered_spends steps old code (found.Nested class holder) sel receiver values site progress was =
    listed_spends steps old code (found.Nested class holder) sel receiver values site progress was
answered_spends steps old code (found.Factory class) sel receiver values site progress was =
    listed_spends steps old code (found.Factory class) sel receiver values site progress was
answered_spends steps old code (found.Kernel number) sel receiver values site progress was =
    listed_spends steps old code (found.Kernel number) sel receiver values site progress was
answered_spends steps old code found.NotPublic sel receiver values site progress was =
    listed_spends steps old code found.NotPublic sel receiver values site progress was

-- ---- sends and evaluations

pub stepped_spends : (code : CodeProgram) (member : Found) (sel : Sel) (receiver : Value) (values : List Value) (site : Site) (progress : Progress)
    → ControlSpends 1 progress (charged halts Steps (stepped progress.world) progress (answered_by code member sel receiver values site))
stepped_spends code member sel receiver values site progress =
    charged_all (ControlSpends 1 progress) halts Steps (stepped progress.world) progress (answered_by code member sel receiver values site) (inl refl)
    (λ world e. answered_spends 1 progress code member sel receiver values site (in_world progress world) (step_charged progress world e))

block_spends : (code : CodeProgram) (cell : NewCell) (arguments : List Value) (site : Site) (progress : Progress) →
    ControlSpends 1 progress (block_entered code cell arguments site progress)
block_spends code (new.Block body env home receiver holder) arguments site progress =
    tested (eqb (length arguments) (parameters_of code body))
  where
    activation : Activation
    activation = record { self = receiver; holder = holder; body = body; home = home; env = env; site = site }

    framed : Progress → Control
    framed progress = charged halts Depth (entered progress.world) progress (opened code halts (Enter FromBody) activation arguments)

    within : (world : World) → stepped progress.world ≡ Some world → ControlSpends 1 progress (framed (in_world progress world))
    within world s =
        let was = step_charged progress world s in
        charged_all (ControlSpends 1 progress) halts Depth (entered world) (in_world progress world) (opened code halts (Enter FromBody) activation arguments) (stopped_here 1 progress (in_world progress world) was)
        (λ next e. let there = frame_charged 1 progress (in_world progress world) next was e in
        opened_counts (ControlSpends 1 progress) code halts (Enter FromBody) activation arguments (in_world progress next) (stopped_framed 1 progress (in_world progress next) there)
        (λ running locals last same home. still_charged 1 1 0 progress (in_world progress next) last there same))

    tested : (b : Bool) → ControlSpends 1 progress (cond b (charged halts Steps (stepped progress.world) progress framed) (fails WrongArity site progress))
    tested true = charged_all (ControlSpends 1 progress) halts Steps (stepped progress.world) progress framed (inl refl) (λ world s. within world s)
    tested false = inl refl
block_spends code (new.Object class words) arguments site progress = inl refl
block_spends code (new.Class decl base encl holder over) arguments site progress = inl refl
block_spends code (new.Environment parent locals) arguments site progress = inl refl
block_spends code (new.Array size) arguments site progress = inl refl
block_spends code (new.Text bytes) arguments site progress = inl refl
block_spends code (new.Facet kind) arguments site progress = inl refl
block_spends code (new.Mirror shown) arguments site progress = inl refl
block_spends code (new.Message sel args) arguments site progress = inl refl

-- ---- methods of the kernel

turned_spends : (turn : Bool) (progress : Progress) (go : Progress → Waiting) →
    ((steps : ℕ) (next : Progress) → Charged steps 0 0 progress next → WaitingSpends steps progress (go next)) →
    WaitingSpends (turn_steps turn) progress (turned turn progress go)
turned_spends true progress go goes =
    charged_all (WaitingSpends 1 progress) (λ ending progress. Finishes (Halts ending progress)) Steps (stepped progress.world) progress go refl
    (λ world e. goes 1 (in_world progress world) (step_charged progress world e))
turned_spends false progress go goes = goes 0 progress (nothing_charged progress)

acted_spends : (a : KAction) (state : KState) (site : Site) (progress : Progress) →
    WaitingSpends (action_steps a) progress (acted a state site progress)
acted_spends (action.Evaluate block argument turn count) state site progress =
    turned_spends turn progress (Waits block (listed argument) (waiting state count)) (λ steps next was. was)
acted_spends (action.EvaluateItem block item count) state site progress =
    turned_spends true progress (λ progress. Waits block (item_at progress.world.cells state.receiver item ∷ []) (waiting state count) progress) (λ steps next was. was)
acted_spends (action.Answer value) state site progress = back_given progress
acted_spends (action.Fail kind) state site progress = refl

-- ---- superclass parts

declared_spends : (code : CodeProgram) (activation : Activation) (over sel : ℕ) (arguments : List Value) (progress : Progress) →
    PartSpends progress (declared_part code activation over sel arguments progress)
declared_spends code activation over sel arguments progress =
    tested (eqb sel (factory_selector code (declaration_of progress.world.cells over)))
  where
    inner : Activation
    inner = record { self = activation.self; holder = over; body = initialiser_of code (declaration_of progress.world.cells over); home = no_home; env = value.Nil; site = activation.site }

    tested : (b : Bool) → PartSpends progress (cond b (charged Stop Depth (entered progress.world) progress (opened code Stop EnterPart inner arguments)) (Stop (error InitMismatch activation.site) progress))
    tested true =
        charged_all (PartSpends progress) Stop Depth (entered progress.world) progress (opened code Stop EnterPart inner arguments) (inl refl)
        (λ world e. let framed = frame_charged 0 progress progress world (nothing_charged progress) e in
        opened_counts (PartSpends progress) code Stop EnterPart inner arguments (in_world progress world) (stopped_framed 0 progress (in_world progress world) framed)
        (λ running locals next same home. still_charged 0 1 0 progress (in_world progress world) next framed same))
    tested false = inl refl

object_spends : (code : CodeProgram) (activation : Activation) (sel : ℕ) (progress : Progress) →
    PartSpends progress (object_part code activation sel progress)
object_spends code activation sel progress = tested (bytes_eq (selector_text code sel) (codes "new"))
  where
    tested : (b : Bool) → PartSpends progress (cond b (Skip progress) (Stop (error InitMismatch activation.site) progress))
    tested true = nothing_charged progress
    tested false = inl refl

part_spends : (code : CodeProgram) (activation : Activation) (over : Value) (sel : ℕ) (arguments : List Value) (progress : Progress) →
    PartSpends progress (part_of code activation over sel arguments progress)
part_spends code activation (value.Ref over) sel arguments progress = declared_spends code activation over sel arguments progress
part_spends code activation value.Nil sel arguments progress = object_spends code activation sel progress
part_spends code activation value.True sel arguments progress = object_spends code activation sel progress
part_spends code activation value.False sel arguments progress = object_spends code activation sel progress
part_spends code activation (value.Int number) sel arguments progress = object_spends code activation sel progress
part_spends code activation (value.Sym name) sel arguments progress = object_spends code activation sel progress
part_spends code activation (value.Kernel class) sel arguments progress = object_spends code activation sel progress

-- ---- all actions

ended_spends : (code : CodeProgram) (exit : Exit) (activation : Activation) (answer : Value) (progress : Progress) →
    EndSpends progress (body_ended code exit activation answer progress)
ended_spends code FromMethod activation answer progress = back_given progress
ended_spends code FromBody activation answer progress = back_given progress
ended_spends code (FromClause object holder class) activation answer progress =
    let down : Progress = in_world progress (left progress.world) in
    over_all (EndSpends progress) code object holder class answer activation.site down (λ ending. back_given progress)
    (λ kept world same. still_given progress down world (back_given progress) same)

cell_spends : (cell : Cell) (progress : Progress) → CellSpends progress (new_cell cell progress)
cell_spends cell progress =
    charged_all (CellSpends progress) Halts Cells (made progress.world cell) progress (Gives (value.Ref (heap_size progress.world.cells))) refl
    (λ world e. still_charged 0 0 0 progress progress world (nothing_charged progress) (made_counts progress.world world cell e))

local_spends : (progress : Progress) (at place : ℕ) (stored : Value) (b : Bool) →
    Charged 0 0 0 progress (in_world progress (cond b progress.world (written progress.world at place stored)))
local_spends progress at place stored true = nothing_charged progress
local_spends progress at place stored false = record { steps = omega arith; depth = omega arith; begun = omega arith }

-- Each action charges exactly so much.
pub action_spends : (code : CodeProgram) (act : Action) (progress : Progress) → Spends code act progress
action_spends code (Sends activation target sel values place) progress =
    let to : Value = receiver_of progress.world.cells activation target in
    stepped_spends code (found_at progress.world.cells code activation target sel.0) sel to values (site_at progress.world.cells place to sel) progress
action_spends code (SendsPlain receiver sel values place) progress =
    stepped_spends code (found_from progress.world.cells code (start_of progress.world.cells receiver) sel.0 Plain) sel receiver values (site_at progress.world.cells place receiver sel) progress
action_spends code (Performs receiver sel array site) progress =
    stepped_spends code (found_from progress.world.cells code (start_of progress.world.cells receiver) sel.0 Plain) sel receiver (items_of progress.world.cells (value.Ref array))
    (site_at progress.world.cells site.place receiver sel) progress
action_spends code (Evaluates block arguments site) progress =
    block_spends code (shape_of_value progress.world.cells block) arguments site progress
action_spends code (Continues method state site) progress = acted_spends (next method state) state site progress
action_spends code (BeginsPart activation arguments) progress =
    part_spends code activation (superclass_in (find_cell progress.world.cells activation.holder)) (super_selector code (declaration_of progress.world.cells activation.holder)) arguments progress
action_spends code EndsPart progress = back_given progress
action_spends code (EndsBody exit activation answer) progress = ended_spends code exit activation answer progress
action_spends code (MakesBlock activation body) progress =
    cell_spends (BlockCell body activation.env activation.home activation.self activation.holder) progress
action_spends code (MakesText bytes) progress = cell_spends (TextCell bytes) progress
action_spends code (MakesArray items) progress = cell_spends (ArrayCell items) progress
action_spends code (FillsSlot activation slot item) progress =
    let word = entry_word progress.world.cells code activation.holder slot in
    still_charged 0 0 0 progress progress (stored progress.world activation.self word item) (nothing_charged progress) (stored_counts progress.world activation.self word item)
action_spends code (StoresLocal activation hops place item) progress =
    local_spends progress (environment_at progress.world.cells code activation hops) place item (is_beside code activation hops)
