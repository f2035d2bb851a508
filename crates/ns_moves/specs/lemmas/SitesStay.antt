-- What a send goes on with keeps its site and has its home, and a block is evaluated with at most 255 arguments.
use Rattle.std.proofs.Common.{◌≡◌, ℕ, ◌≤◌, List, [], length, replicate, refl, arith, Option, Some, None, Bool, true, false, cond}
use Rattle.std.specs.Prelude.{Result, Ok, Err, pos, nat_lt}
use Rattle.ns_moves.specs.laws.Onward.{charged_all}
use Rattle.ns_base.specs.declared.selector.Sel.{Sel}
use Rattle.ns_code.specs.declared.program.CodeProgram.{CodeProgram}
use Rattle.ns_code.specs.declared.own.Own.TheVariants.{DoesNotUnderstand}
use Rattle.ns_world.specs.declared.value.Value.{Value}
use Rattle.ns_world.specs.declared.value.Value.TheVariants as value
use Rattle.ns_world.specs.declared.ending.Fault.{Fault}
use Rattle.ns_world.specs.declared.ending.Kind.TheVariants.{WrongArity, WrongKind}
use Rattle.ns_world.specs.declared.ending.LimitKind.TheVariants.{Depth, Cells}
use Rattle.ns_world.specs.Cell.{ObjectCell, EnvironmentCell, ArrayCell, MessageCell}
use Rattle.ns_world.specs.Heap.{heap_size, cell_number}
use Rattle.ns_world.specs.World.{World, made, entered}
use Rattle.ns_world.specs.Layout.{declaration_of, layout_of}
use Rattle.ns_world.specs.Starts.{start_of}
use Rattle.ns_classes.specs.Nested.{kept_class}
use Rattle.ns_find.specs.declared.found.Found.{Found}
use Rattle.ns_find.specs.declared.found.Found.TheVariants as found
use Rattle.ns_find.specs.declared.found.Sending.TheVariants.{Inner}
use Rattle.ns_find.specs.Find.{found_from}
use Rattle.ns_kint.specs.Integer.{integer}
use Rattle.ns_world.specs.declared.kernel_parts.DataRow.{DataRow}
use Rattle.ns_world.specs.declared.kernel_parts.DataRow.TheVariants as values
use Rattle.ns_kdata.specs.Outcome.{RowOutcome, Answers, Fails}
use Rattle.ns_kdata.specs.Arguments.{argument, number_of, items_of, is_array}
use Rattle.ns_kdata.specs.Rows.{message_selector}
use Rattle.ns_kdata.specs.Datum.{datum}
use Rattle.ns_world.specs.declared.kernel_parts.FacetRow.{FacetRow}
use Rattle.ns_world.specs.declared.kernel_parts.FacetRow.TheVariants as facet
use Rattle.ns_facets.specs.Facet.{facet as facet_outcome, board_after}
use Rattle.ns_mirror.specs.declared.row.Mirrored.TheVariants.{Answer, Perform}
use Rattle.ns_mirror.specs.Mirror.{Reflected, Reflects, Refuses, mirror}
use Rattle.ns_world.specs.declared.kernel_parts.KMethod.{KMethod}
use Rattle.ns_kcode.specs.Rows.{beginning}
use Rattle.ns_world.specs.declared.kernel_row.Row.{Row}
use Rattle.ns_world.specs.declared.kernel_row.Row.TheVariants as row
use Rattle.ns_moves.specs.declared.site.Site.{Site}
use Rattle.ns_moves.specs.Control.{Progress, in_world, Activation, FromMethod, FromBody, FromClause, Control, Enter, Evaluate, Begin, halts, fails, charged}
use Rattle.ns_moves.specs.Bodies.{has_environment, first_locals, initialiser_of, clause_of, no_home, opened}
use Rattle.ns_moves.specs.Classes.{head, nested, instance}
use Rattle.ns_moves.specs.Blocks.{value_with_arguments, has_arguments, turns_of, method_begun}
use Rattle.ns_world.specs.KernelTable.{row_at}
use Rattle.ns_moves.specs.Kernel.{outcome_reached, answer_reached, reflected_reached, facet_reached, message_refused, data_reached, row_reached}
use Rattle.ns_moves.specs.Sends.{Arguments, Listed, Wrapped, given, one_more, method_entered, factory_entered, set, nested_in, done_with, not_found, answered_by}
use Rattle.ns_code.specs.Selector.{own_number}
use Rattle.ns_moves.specs.Fitting.{GoesOnAt}
use Rattle.std.proofs.lemmas.Bool.{ltb-false}

outcome_at : (Few : Type 0) (outcome : RowOutcome) (site : Site) (progress : Progress) →
    GoesOnAt Few site no_home (outcome_reached outcome site progress)
outcome_at Few (Answers answer world) site progress = tt
outcome_at Few (Fails fault) site progress = tt

answer_at : (Few : Type 0) (r : Result Value Fault) (site : Site) (progress : Progress) →
    GoesOnAt Few site no_home (answer_reached r site progress)
answer_at Few (Ok answer) site progress = tt
answer_at Few (Err fault) site progress = tt

reflected_at : (Few : Type 0) (r : Reflected) (site : Site) (progress : Progress) →
    GoesOnAt Few site no_home (reflected_reached r site progress)
reflected_at Few (Reflects (Answer answer) world) site progress = tt
reflected_at Few (Reflects (Perform receiver sel array) world) site progress = refl
reflected_at Few (Refuses fault) site progress = tt

refused_at : (Few : Type 0) (outcome : RowOutcome) (selector : Value) (site : Site) (progress : Progress) →
    GoesOnAt Few site no_home (message_refused outcome selector site progress)
refused_at Few (Answers answer world) selector site progress = tt
refused_at Few (Fails fault) selector site progress = tt

data_at :
    (Few : Type 0) (code : CodeProgram) (r : DataRow) (receiver : Value) (arguments : List Value) (site : Site) (progress : Progress) →
    GoesOnAt Few site no_home (data_reached code r receiver arguments site progress)
data_at Few code values.DoesNotUnderstand receiver arguments site progress =
    refused_at Few (datum progress.world code values.DoesNotUnderstand receiver arguments) (message_selector progress.world.cells (argument arguments 0)) site progress
data_at Few code values.Identical receiver arguments site progress =
    outcome_at Few (datum progress.world code values.Identical receiver arguments) site progress
data_at Few code values.Equal receiver arguments site progress =
    outcome_at Few (datum progress.world code values.Equal receiver arguments) site progress
data_at Few code values.IsNil receiver arguments site progress =
    outcome_at Few (datum progress.world code values.IsNil receiver arguments) site progress
data_at Few code values.NotNil receiver arguments site progress =
    outcome_at Few (datum progress.world code values.NotNil receiver arguments) site progress
data_at Few code values.KernelObject receiver arguments site progress =
    outcome_at Few (datum progress.world code values.KernelObject receiver arguments) site progress
data_at Few code values.NewObject receiver arguments site progress =
    outcome_at Few (datum progress.world code values.NewObject receiver arguments) site progress
data_at Few code values.NewArray receiver arguments site progress =
    outcome_at Few (datum progress.world code values.NewArray receiver arguments) site progress
data_at Few code values.NilPrint receiver arguments site progress =
    outcome_at Few (datum progress.world code values.NilPrint receiver arguments) site progress
data_at Few code values.Not receiver arguments site progress =
    outcome_at Few (datum progress.world code values.Not receiver arguments) site progress
data_at Few code values.BooleanPrint receiver arguments site progress =
    outcome_at Few (datum progress.world code values.BooleanPrint receiver arguments) site progress
data_at Few code values.And receiver arguments site progress =
    outcome_at Few (datum progress.world code values.And receiver arguments) site progress
data_at Few code values.Or receiver arguments site progress =
    outcome_at Few (datum progress.world code values.Or receiver arguments) site progress
data_at Few code values.IntegerPrint receiver arguments site progress =
    outcome_at Few (datum progress.world code values.IntegerPrint receiver arguments) site progress
data_at Few code values.TextSize receiver arguments site progress =
    outcome_at Few (datum progress.world code values.TextSize receiver arguments) site progress
data_at Few code values.TextAt receiver arguments site progress =
    outcome_at Few (datum progress.world code values.TextAt receiver arguments) site progress
data_at Few code values.TextCopy receiver arguments site progress =
    outcome_at Few (datum progress.world code values.TextCopy receiver arguments) site progress
data_at Few code values.TextJoin receiver arguments site progress =
    outcome_at Few (datum progress.world code values.TextJoin receiver arguments) site progress
data_at Few code values.TextEqual receiver arguments site progress =
    outcome_at Few (datum progress.world code values.TextEqual receiver arguments) site progress
data_at Few code values.TextLess receiver arguments site progress =
    outcome_at Few (datum progress.world code values.TextLess receiver arguments) site progress
data_at Few code values.TextPrint receiver arguments site progress =
    outcome_at Few (datum progress.world code values.TextPrint receiver arguments) site progress
data_at Few code values.SymbolSize receiver arguments site progress =
    outcome_at Few (datum progress.world code values.SymbolSize receiver arguments) site progress
data_at Few code values.SymbolText receiver arguments site progress =
    outcome_at Few (datum progress.world code values.SymbolText receiver arguments) site progress
data_at Few code values.SymbolPrint receiver arguments site progress =
    outcome_at Few (datum progress.world code values.SymbolPrint receiver arguments) site progress
data_at Few code values.SymbolLess receiver arguments site progress =
    outcome_at Few (datum progress.world code values.SymbolLess receiver arguments) site progress
data_at Few code values.ArraySize receiver arguments site progress =
    outcome_at Few (datum progress.world code values.ArraySize receiver arguments) site progress
data_at Few code values.ArrayAt receiver arguments site progress =
    outcome_at Few (datum progress.world code values.ArrayAt receiver arguments) site progress
data_at Few code values.ArrayPut receiver arguments site progress =
    outcome_at Few (datum progress.world code values.ArrayPut receiver arguments) site progress
data_at Few code values.MessageSelector receiver arguments site progress =
    outcome_at Few (datum progress.world code values.MessageSelector receiver arguments) site progress
data_at Few code values.MessageArguments receiver arguments site progress =
    outcome_at Few (datum progress.world code values.MessageArguments receiver arguments) site progress

facet_at : (Few : Type 0) (code : CodeProgram) (r : FacetRow) (arguments : List Value) (site : Site) (progress : Progress) →
    GoesOnAt Few site no_home (facet_reached code r arguments site progress)
facet_at Few code r arguments site progress =
    outcome_at Few (facet_outcome progress.world code r arguments progress.board) site (record progress { board = board_after r arguments progress.board })

array_at : (Few : Type 0) (block array : Value) (site : Site) (progress : Progress) →
    GoesOnAt Few site no_home (value_with_arguments block array site progress)
array_at Few block array site progress =
    tested (is_array progress.world.cells array) (nat_lt 255 (length (items_of progress.world.cells array))) refl
  where
    tested : (b c : Bool) → nat_lt 255 (length (items_of progress.world.cells array)) ≡ c → GoesOnAt Few site no_home (cond b (cond c (fails WrongArity site progress) (Evaluate block (items_of progress.world.cells array) site progress)) (fails WrongKind site progress))
    tested true true t = tt
    tested true false t = (refl, λ few. omega (arith, ltb-false 255 (length (items_of progress.world.cells array)) t))
    tested false c t = tt

begun_at : (Few : Type 0) (method : KMethod) (receiver first second : Value) (site : Site) (progress : Progress) →
    GoesOnAt Few site no_home (method_begun method receiver first second site progress)
begun_at Few method receiver first second site progress = tested (has_arguments progress.world.cells method first second)
  where
    go : Progress → Control
    go = Begin method (beginning receiver first second (pos (turns_of progress.world.cells method receiver))) site

    tested : (b : Bool) → GoesOnAt Few site no_home (cond b (charged halts Depth (entered progress.world) progress go) (fails WrongKind site progress))
    tested true = charged_all (GoesOnAt Few site no_home) halts Depth (entered progress.world) progress go tt (λ world e. refl)
    tested false = tt

-- what has to be few of the arguments of a send, by what it finds
abbrev pub FewOf : Type 0 → ℕ → Row → Type 0
FewOf Few count (row.Data r) = Unit {0}
FewOf Few count (row.Integer r) = Unit {0}
FewOf Few count row.Top = Unit {0}
FewOf Few count (row.Facet r) = Unit {0}
FewOf Few count (row.Mirror r) = Unit {0}
FewOf Few count (row.Method method) = Unit {0}
FewOf Few count row.Apply = Unit {0}
FewOf Few count row.Value = Few → count ≤ 255
FewOf Few count row.ValueWithArguments = Unit {0}
FewOf Few count row.NumArgs = Unit {0}

abbrev pub FewFound : Type 0 → ℕ → Found → Type 0
FewFound Few count (found.Kernel number) = FewOf Few count (row_at number)
FewFound Few count other = Unit {0}

row_at_site :
    (Few : Type 0) (code : CodeProgram) (r : Row) (sel : Sel) (receiver : Value) (arguments : List Value) (site : Site) (progress : Progress) →
    FewOf Few (length arguments) r → GoesOnAt Few site no_home (row_reached code r sel receiver arguments site progress)
row_at_site Few code (row.Data d) sel receiver arguments site progress few = data_at Few code d receiver arguments site progress
row_at_site Few code (row.Integer i) sel receiver arguments site progress few =
    answer_at Few (integer i (number_of receiver) (argument arguments 0)) site progress
row_at_site Few code row.Top sel receiver arguments site progress few = facet_at Few code (facet.Top sel) arguments site progress
row_at_site Few code (row.Facet f) sel receiver arguments site progress few = facet_at Few code f arguments site progress
row_at_site Few code (row.Mirror m) sel receiver arguments site progress few =
    reflected_at Few (mirror progress.world code m (cell_number receiver) arguments) site progress
row_at_site Few code (row.Method m) sel receiver arguments site progress few =
    begun_at Few m receiver (argument arguments 0) (argument arguments 1) site progress
row_at_site Few code row.Apply sel receiver arguments site progress few = tt
row_at_site Few code row.Value sel receiver arguments site progress few = (refl, few)
row_at_site Few code row.ValueWithArguments sel receiver arguments site progress few =
    array_at Few receiver (argument arguments 0) site progress
row_at_site Few code row.NumArgs sel receiver arguments site progress few = tt

pub opened_at : (Few : Type 0) (site : Site) (home : ℕ) (code : CodeProgram) (go : Activation → List Value → Progress → Control) (activation : Activation) (arguments : List Value) (progress : Progress)
    → ((env : Value) (locals : List Value) (world : World) → GoesOnAt Few site home (go (record activation { env = env }) locals (in_world progress world))) → GoesOnAt Few site home (opened code halts go activation arguments progress)
opened_at Few site home code go activation arguments progress goes = tested (has_environment code activation.body)
  where
    locals : List Value
    locals = first_locals code activation.body arguments

    inner : Activation
    inner = record activation { env = value.Ref (heap_size progress.world.cells) }

    tested : (b : Bool) → GoesOnAt Few site home (cond b (charged halts Cells (made progress.world (EnvironmentCell activation.env locals)) progress (go inner [])) (go activation locals progress))
    tested true = charged_all (GoesOnAt Few site home) halts Cells (made progress.world (EnvironmentCell activation.env locals)) progress (go inner []) tt (λ world e. goes (value.Ref (heap_size progress.world.cells)) [] world)
    tested false = goes activation.env locals progress.world

given_at : (Few : Type 0) (site : Site) (arguments : Arguments) (progress : Progress) (go : List Value → Progress → Control) →
    ((values : List Value) (world : World) → GoesOnAt Few site no_home (go values (in_world progress world))) →
    GoesOnAt Few site no_home (given arguments progress go)
given_at Few site (Listed values) progress go goes = goes values progress.world
given_at Few site (Wrapped sel values) progress go goes =
    charged_all (GoesOnAt Few site no_home) halts Cells (made progress.world (ArrayCell values)) progress _ tt
    (λ world e. charged_all (GoesOnAt Few site no_home) halts Cells (made world (MessageCell sel (value.Ref (heap_size progress.world.cells)))) (in_world progress world) _ tt (λ next m. goes _ next))

method_at :
    (Few : Type 0) (code : CodeProgram) (body holder : ℕ) (receiver : Value) (arguments : Arguments) (site : Site) (progress : Progress) →
    GoesOnAt Few site no_home (method_entered code body holder receiver arguments site progress)
method_at Few code body holder receiver arguments site progress =
    charged_all (GoesOnAt Few site no_home) halts Depth (entered progress.world) progress _ tt
    (λ world e. given_at Few site arguments (in_world progress world) _
    (λ values next. opened_at Few site no_home code (λ activation locals progress. Enter FromMethod activation locals (one_more progress))
    (record { self = receiver; holder = holder; body = body; home = progress.begun; env = value.Nil; site = site }) values (in_world progress next) (λ env locals last. (refl, refl))))

factory_at : (Few : Type 0) (code : CodeProgram) (class : ℕ) (arguments : Arguments) (site : Site) (progress : Progress) →
    GoesOnAt Few site no_home (factory_entered code class arguments site progress)
factory_at Few code class arguments site progress =
    charged_all (GoesOnAt Few site no_home) halts Depth (entered progress.world) progress _ tt
    (λ world e. given_at Few site arguments (in_world progress world) (λ values progress. instance code class values site progress)
    (λ values next. charged_all (GoesOnAt Few site no_home) halts Cells (made next (ObjectCell class (replicate (layout_of next.cells code class) value.Nil))) (in_world progress next) _ tt
    (λ last m. opened_at Few site no_home code (Enter FromBody)
    (record { self = value.Ref (heap_size next.cells); holder = class; body = initialiser_of code (declaration_of next.cells class); home = no_home; env = value.Nil; site = site }) values (in_world progress last) (λ env locals end. (refl, refl)))))

set_at : (Few : Type 0) (code : CodeProgram) (word : ℕ) (receiver : Value) (arguments : Arguments) (site : Site) (progress : Progress) →
    GoesOnAt Few site no_home (set word receiver arguments progress)
set_at Few code word receiver arguments site progress = given_at Few site arguments progress _ (λ values world. tt)

head_at : (Few : Type 0) (code : CodeProgram) (object holder class : ℕ) (clause : Option ℕ) (site : Site) (progress : Progress) →
    GoesOnAt Few site no_home (head code object holder class clause site progress)
head_at Few code object holder class None site progress = tt
head_at Few code object holder class (Some clause) site progress =
    charged_all (GoesOnAt Few site no_home) halts Depth (entered progress.world) progress _ tt
    (λ world e. opened_at Few site no_home code (Enter (FromClause object holder class))
    (record { self = value.Ref object; holder = holder; body = clause; home = no_home; env = value.Nil; site = site }) [] (in_world progress world) (λ env locals last. (refl, refl)))

nested_at : (Few : Type 0) (code : CodeProgram) (receiver : Value) (holder class : ℕ) (site : Site) (progress : Progress) →
    GoesOnAt Few site no_home (nested_in code receiver holder class site progress)
nested_at Few code (value.Ref object) holder class site progress = kept (kept_class progress.world.cells code object holder class)
  where
    kept : (o : Option ℕ) → GoesOnAt Few site no_home (nested code object holder class o site progress)
    kept (Some number) = tt
    kept None = head_at Few code object holder class (clause_of code class) site progress
nested_at Few code value.Nil holder class site progress = tt
nested_at Few code value.True holder class site progress = tt
nested_at Few code value.False holder class site progress = tt
nested_at Few code (value.Int number) holder class site progress = tt
nested_at Few code (value.Sym sel) holder class site progress = tt
nested_at Few code (value.Kernel kernel) holder class site progress = tt

listed_at :
    (Few : Type 0) (code : CodeProgram) (member : Found) (sel : Sel) (receiver : Value) (values : List Value) (site : Site) (progress : Progress) →
    FewFound Few (length values) member → GoesOnAt Few site no_home (done_with code member sel receiver (Listed values) site progress)
listed_at Few code (found.Method body holder) sel receiver values site progress few =
    method_at Few code body holder receiver (Listed values) site progress
listed_at Few code (found.Getter holder word) sel receiver values site progress few = tt
listed_at Few code (found.Setter holder word) sel receiver values site progress few =
    set_at Few code word receiver (Listed values) site progress
listed_at Few code (found.Nested class holder) sel receiver values site progress few =
    nested_at Few code receiver holder class site progress
listed_at Few code (found.Factory class) sel receiver values site progress few = factory_at Few code class (Listed values) site progress
listed_at Few code (found.Kernel number) sel receiver values site progress few =
    row_at_site Few code (row_at number) sel receiver values site progress few
listed_at Few code found.NotPublic sel receiver values site progress few = tt
listed_at Few code found.Absent sel receiver values site progress few = tt

absent_at :
    (Few : Type 0) (code : CodeProgram) (member : Found) (sel : Sel) (receiver : Value) (values : List Value) (site : Site) (progress : Progress) →
    GoesOnAt Few site no_home (not_found code member sel receiver values site progress)
absent_at Few code (found.Method body holder) sel receiver values site progress =
    method_at Few code body holder receiver (Wrapped sel values) site progress
absent_at Few code (found.Getter holder word) sel receiver values site progress = tt
absent_at Few code (found.Setter holder word) sel receiver values site progress =
    set_at Few code word receiver (Wrapped sel values) site progress
absent_at Few code (found.Nested class holder) sel receiver values site progress = nested_at Few code receiver holder class site progress
absent_at Few code (found.Factory class) sel receiver values site progress = factory_at Few code class (Wrapped sel values) site progress
absent_at Few code (found.Kernel number) sel receiver values site progress = tt
absent_at Few code found.NotPublic sel receiver values site progress = tt
absent_at Few code found.Absent sel receiver values site progress = tt

pub answered_at :
    (Few : Type 0) (code : CodeProgram) (member : Found) (sel : Sel) (receiver : Value) (values : List Value) (site : Site) (progress : Progress) →
    FewFound Few (length values) member → GoesOnAt Few site no_home (answered_by code member sel receiver values site progress)
answered_at Few code (found.Method body holder) sel receiver values site progress few =
    listed_at Few code (found.Method body holder) sel receiver values site progress few
answered_at Few code (found.Getter holder word) sel receiver values site progress few =
    listed_at Few code (found.Getter holder word) sel receiver values site progress few
answered_at Few code (found.Setter holder word) sel receiver values site progress few =
    listed_at Few code (found.Setter holder word) sel receiver values site progress few
answered_at Few code (found.Nested class holder) sel receiver values site progress few =
    listed_at Few code (found.Nested class holder) sel receiver values site progress few
answered_at Few code (found.Factory class) sel receiver values site progress few =
    listed_at Few code (found.Factory class) sel receiver values site progress few
answered_at Few code (found.Kernel number) sel receiver values site progress few =
    listed_at Few code (found.Kernel number) sel receiver values site progress few
answered_at Few code found.NotPublic sel receiver values site progress few =
    listed_at Few code found.NotPublic sel receiver values site progress few
answered_at Few code found.Absent sel receiver values site progress few =
    absent_at Few code (found_from progress.world.cells code (start_of progress.world.cells receiver) (own_number code DoesNotUnderstand) Inner) sel receiver values site progress
