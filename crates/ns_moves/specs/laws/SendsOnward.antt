-- What a send leaves.
use Rattle.std.proofs.Common.{◌≡◌, ℕ, ◌≤◌, List, refl, ap, sym, Option, arith}
use Rattle.std.specs.Prelude.{Contains, Result, Ok, Err}
use Rattle.ns_base.specs.declared.place.Place.{Place as SourcePlace}
use Rattle.ns_base.specs.declared.selector.Sel.{Sel}
use Rattle.ns_code.specs.declared.program.CodeProgram.{CodeProgram}
use Rattle.ns_code.specs.declared.own.Own.TheVariants.{DoesNotUnderstand}
use Rattle.ns_code.specs.Selector.{own_number}
use Rattle.ns_world.specs.declared.value.Value.{Value}
use Rattle.ns_world.specs.declared.value.Value.TheVariants as value
use Rattle.ns_world.specs.declared.ending.Fault.{Fault}
use Rattle.ns_world.specs.declared.ending.LimitKind.TheVariants.{Steps}
use Rattle.ns_world.specs.Cell.{ArrayCell, MessageCell}
use Rattle.ns_world.specs.Heap.{Heap, heap_size, cell_number}
use Rattle.ns_world.specs.World.{stepped}
use Rattle.ns_world.specs.Starts.{start_of}
use Rattle.ns_find.specs.declared.found.Found.{Found}
use Rattle.ns_find.specs.declared.found.Found.TheVariants as found
use Rattle.ns_find.specs.declared.found.Sending.TheVariants.{Plain, Inner}
use Rattle.ns_find.specs.Find.{found_from}
use Rattle.ns_classes.specs.Nested.{kept_class}
use Rattle.ns_kint.specs.Integer.{integer}
use Rattle.ns_world.specs.declared.kernel_parts.DataRow.{DataRow}
use Rattle.ns_world.specs.declared.kernel_parts.DataRow.TheVariants as values
use Rattle.ns_kdata.specs.Outcome.{RowOutcome, Answers, Fails}
use Rattle.ns_kdata.specs.Arguments.{argument, number_of, items_of, shape_of_value}
use Rattle.ns_kdata.specs.Rows.{message_selector}
use Rattle.ns_kdata.specs.Datum.{datum}
use Rattle.ns_kdata.specs.Leading.{HoldsAfter}
use Rattle.ns_kdata.specs.laws.Leading.{data_leads}
use Rattle.ns_world.specs.declared.kernel_parts.FacetRow.{FacetRow}
use Rattle.ns_world.specs.declared.kernel_parts.FacetRow.TheVariants as facet
use Rattle.ns_facets.specs.Facet.{facet as facet_outcome, board_after}
use Rattle.ns_mirror.specs.declared.row.Mirrored.TheVariants.{Answer, Perform}
use Rattle.ns_mirror.specs.Looking.{mirrored}
use Rattle.ns_mirror.specs.Mirror.{Reflected, Reflects, Refuses, mirror}
use Rattle.ns_facets.specs.laws.Leading.{facet_leads}
use Rattle.ns_mirror.specs.Leading.{ReflectsTo}
use Rattle.ns_mirror.specs.laws.Leading.{mirror_leads}
use Rattle.ns_world.specs.declared.kernel_row.Row.{Row}
use Rattle.ns_world.specs.declared.kernel_row.Row.TheVariants as row
use Rattle.ns_moves.specs.declared.site.Site.{Site}
use Rattle.ns_moves.specs.Control.{Progress, in_world, Activation, FromMethod, Control, Enter, halts, charged}
use Rattle.ns_moves.specs.Classes.{instance}
use Rattle.ns_world.specs.KernelTable.{row_at}
use Rattle.ns_moves.specs.Kernel.{outcome_reached, answer_reached, reflected_reached, facet_reached, message_refused, data_reached, row_reached}
use Rattle.ns_moves.specs.Sends.{Target, Arguments, Listed, Wrapped, given, first_of, one_more, method_entered, factory_entered, set, nested_in, done_with}
use Rattle.ns_moves.specs.Sends.{not_found, answered_by, receiver_of, found_at, site_at, sent, sent_plain, performed}
use Rattle.ns_moves.specs.Onward.{reached, touched}
use Rattle.ns_moves.specs.laws.Growing.{Moving, moving_not, step_moves, step_cells, storing_moves, allows, writes}
use Rattle.ns_moves.specs.laws.Onward.{Going, may_come, onward_not, onward_in, charge_onward, frame_onward, cells_onward, opened_onward}
use Rattle.ns_moves.specs.laws.ClassesOnward.{mixed_onward, nested_onward, instance_onward}
use Rattle.ns_moves.specs.laws.BlocksOnward.{array_onward, begun_onward}

-- ---- rows of the kernel

outcome_onward : (named : List Value) (outcome : RowOutcome) (site : Site) (old progress : Progress) → Going named old progress →
    HoldsAfter (Moving named old.world) outcome → old.begun ≤ progress.begun → progress.world ≡ old.world →
    Going named old (reached (outcome_reached outcome site progress))
outcome_onward named (Answers answer world) site old progress here grown begun same = record { world = grown; begun = begun }
outcome_onward named (Fails fault) site old progress here grown begun same = here

answer_onward : (named : List Value) (r : Result Value Fault) (site : Site) (progress : Progress) →
    Going named progress (reached (answer_reached r site progress))
answer_onward named (Ok answer) site progress = onward_not named progress
answer_onward named (Err fault) site progress = onward_not named progress

reflected_onward : (named : List Value) (r : Reflected) (site : Site) (progress : Progress) → ReflectsTo (Moving named progress.world) r →
    Going named progress (reached (reflected_reached r site progress))
reflected_onward named (Reflects (Answer answer) world) site progress grown = onward_in named progress world grown
reflected_onward named (Reflects (Perform receiver sel array) world) site progress grown = onward_in named progress world grown
reflected_onward named (Refuses fault) site progress grown = onward_not named progress

refused_onward : (named : List Value) (outcome : RowOutcome) (selector : Value) (site : Site) (progress : Progress) →
    HoldsAfter (Moving named progress.world) outcome → Going named progress (reached (message_refused outcome selector site progress))
refused_onward named (Answers answer world) selector site progress grown = onward_in named progress world grown
refused_onward named (Fails fault) selector site progress grown = onward_not named progress

-- where the rest of a run is as it was
plain_onward : (named : List Value) (outcome : RowOutcome) (site : Site) (progress : Progress) →
    HoldsAfter (Moving named progress.world) outcome → Going named progress (reached (outcome_reached outcome site progress))
plain_onward named outcome site progress grown =
    outcome_onward named outcome site progress progress (onward_not named progress) grown (omega arith) refl

facet_onward : (named : List Value) (code : CodeProgram) (r : FacetRow) (arguments : List Value) (site : Site) (progress : Progress) →
    Going named progress (reached (facet_reached code r arguments site progress))
facet_onward named code r arguments site progress =
    let next : Progress = record progress { board = board_after r arguments progress.board } in
    let here : Going named progress next = record { world = moving_not named progress.world; begun = omega arith } in
    outcome_onward named (facet_outcome progress.world code r arguments progress.board) site progress next here
    (facet_leads (Moving named progress.world) progress.world (allows named progress.world) code r (argument arguments 0) (argument arguments 1) progress.board) (omega arith) refl

datum_leads : (named : List Value) (code : CodeProgram) (r : DataRow) (receiver : Value) (arguments : List Value) (progress : Progress) →
    Contains named receiver → HoldsAfter (Moving named progress.world) (datum progress.world code r receiver arguments)
datum_leads named code r receiver arguments progress has =
    data_leads (Moving named progress.world) progress.world (allows named progress.world) code r receiver (argument arguments 0) (argument arguments 1) (writes named progress.world receiver has)

data_onward :
    (named : List Value) (code : CodeProgram) (r : DataRow) (receiver : Value) (arguments : List Value) (site : Site) (progress : Progress) →
    Contains named receiver → Going named progress (reached (data_reached code r receiver arguments site progress))
data_onward named code values.DoesNotUnderstand receiver arguments site progress has =
    refused_onward named (datum progress.world code values.DoesNotUnderstand receiver arguments) (message_selector progress.world.cells (argument arguments 0)) site progress (datum_leads named code values.DoesNotUnderstand receiver arguments progress has)
data_onward named code values.Identical receiver arguments site progress has =
    plain_onward named (datum progress.world code values.Identical receiver arguments) site progress (datum_leads named code values.Identical receiver arguments progress has)
data_onward named code values.Equal receiver arguments site progress has =
    plain_onward named (datum progress.world code values.Equal receiver arguments) site progress (datum_leads named code values.Equal receiver arguments progress has)
data_onward named code values.IsNil receiver arguments site progress has =
    plain_onward named (datum progress.world code values.IsNil receiver arguments) site progress (datum_leads named code values.IsNil receiver arguments progress has)
data_onward named code values.NotNil receiver arguments site progress has =
    plain_onward named (datum progress.world code values.NotNil receiver arguments) site progress (datum_leads named code values.NotNil receiver arguments progress has)
data_onward named code values.KernelObject receiver arguments site progress has =
    plain_onward named (datum progress.world code values.KernelObject receiver arguments) site progress (datum_leads named code values.KernelObject receiver arguments progress has)
data_onward named code values.NewObject receiver arguments site progress has =
    plain_onward named (datum progress.world code values.NewObject receiver arguments) site progress (datum_leads named code values.NewObject receiver arguments progress has)
data_onward named code values.NewArray receiver arguments site progress has =
    plain_onward named (datum progress.world code values.NewArray receiver arguments) site progress (datum_leads named code values.NewArray receiver arguments progress has)
data_onward named code values.NilPrint receiver arguments site progress has =
    plain_onward named (datum progress.world code values.NilPrint receiver arguments) site progress (datum_leads named code values.NilPrint receiver arguments progress has)
data_onward named code values.Not receiver arguments site progress has =
    plain_onward named (datum progress.world code values.Not receiver arguments) site progress (datum_leads named code values.Not receiver arguments progress has)
data_onward named code values.BooleanPrint receiver arguments site progress has =
    plain_onward named (datum progress.world code values.BooleanPrint receiver arguments) site progress (datum_leads named code values.BooleanPrint receiver arguments progress has)
data_onward named code values.And receiver arguments site progress has =
    plain_onward named (datum progress.world code values.And receiver arguments) site progress (datum_leads named code values.And receiver arguments progress has)
data_onward named code values.Or receiver arguments site progress has =
    plain_onward named (datum progress.world code values.Or receiver arguments) site progress (datum_leads named code values.Or receiver arguments progress has)
data_onward named code values.IntegerPrint receiver arguments site progress has =
    plain_onward named (datum progress.world code values.IntegerPrint receiver arguments) site progress (datum_leads named code values.IntegerPrint receiver arguments progress has)
data_onward named code values.TextSize receiver arguments site progress has =
    plain_onward named (datum progress.world code values.TextSize receiver arguments) site progress (datum_leads named code values.TextSize receiver arguments progress has)
data_onward named code values.TextAt receiver arguments site progress has =
    plain_onward named (datum progress.world code values.TextAt receiver arguments) site progress (datum_leads named code values.TextAt receiver arguments progress has)
data_onward named code values.TextCopy receiver arguments site progress has =
    plain_onward named (datum progress.world code values.TextCopy receiver arguments) site progress (datum_leads named code values.TextCopy receiver arguments progress has)
data_onward named code values.TextJoin receiver arguments site progress has =
    plain_onward named (datum progress.world code values.TextJoin receiver arguments) site progress (datum_leads named code values.TextJoin receiver arguments progress has)
data_onward named code values.TextEqual receiver arguments site progress has =
    plain_onward named (datum progress.world code values.TextEqual receiver arguments) site progress (datum_leads named code values.TextEqual receiver arguments progress has)
data_onward named code values.TextLess receiver arguments site progress has =
    plain_onward named (datum progress.world code values.TextLess receiver arguments) site progress (datum_leads named code values.TextLess receiver arguments progress has)
data_onward named code values.TextPrint receiver arguments site progress has =
    plain_onward named (datum progress.world code values.TextPrint receiver arguments) site progress (datum_leads named code values.TextPrint receiver arguments progress has)
data_onward named code values.SymbolSize receiver arguments site progress has =
    plain_onward named (datum progress.world code values.SymbolSize receiver arguments) site progress (datum_leads named code values.SymbolSize receiver arguments progress has)
data_onward named code values.SymbolText receiver arguments site progress has =
    plain_onward named (datum progress.world code values.SymbolText receiver arguments) site progress (datum_leads named code values.SymbolText receiver arguments progress has)
data_onward named code values.SymbolPrint receiver arguments site progress has =
    plain_onward named (datum progress.world code values.SymbolPrint receiver arguments) site progress (datum_leads named code values.SymbolPrint receiver arguments progress has)
data_onward named code values.SymbolLess receiver arguments site progress has =
    plain_onward named (datum progress.world code values.SymbolLess receiver arguments) site progress (datum_leads named code values.SymbolLess receiver arguments progress has)
data_onward named code values.ArraySize receiver arguments site progress has =
    plain_onward named (datum progress.world code values.ArraySize receiver arguments) site progress (datum_leads named code values.ArraySize receiver arguments progress has)
data_onward named code values.ArrayAt receiver arguments site progress has =
    plain_onward named (datum progress.world code values.ArrayAt receiver arguments) site progress (datum_leads named code values.ArrayAt receiver arguments progress has)
data_onward named code values.ArrayPut receiver arguments site progress has =
    plain_onward named (datum progress.world code values.ArrayPut receiver arguments) site progress (datum_leads named code values.ArrayPut receiver arguments progress has)
data_onward named code values.MessageSelector receiver arguments site progress has =
    plain_onward named (datum progress.world code values.MessageSelector receiver arguments) site progress (datum_leads named code values.MessageSelector receiver arguments progress has)
data_onward named code values.MessageArguments receiver arguments site progress has =
    plain_onward named (datum progress.world code values.MessageArguments receiver arguments) site progress (datum_leads named code values.MessageArguments receiver arguments progress has)

-- a row writes its receiver, or what its receiver mirrors
row_onward :
    (named : List Value) (code : CodeProgram) (r : Row) (sel : Sel) (receiver : Value) (arguments : List Value) (site : Site) (progress : Progress) →
    Contains named receiver → Contains named (mirrored progress.world.cells (cell_number receiver))
    → Going named progress (reached (row_reached code r sel receiver arguments site progress))
row_onward named code (row.Data d) sel receiver arguments site progress has seen =
    data_onward named code d receiver arguments site progress has
row_onward named code (row.Integer i) sel receiver arguments site progress has seen =
    answer_onward named (integer i (number_of receiver) (argument arguments 0)) site progress
row_onward named code row.Top sel receiver arguments site progress has seen =
    facet_onward named code (facet.Top sel) arguments site progress
row_onward named code (row.Facet f) sel receiver arguments site progress has seen = facet_onward named code f arguments site progress
row_onward named code (row.Mirror m) sel receiver arguments site progress has seen =
    reflected_onward named (mirror progress.world code m (cell_number receiver) arguments) site progress
    (mirror_leads (Moving named progress.world) progress.world (allows named progress.world) code m (mirrored progress.world.cells (cell_number receiver)) (argument arguments 0) (argument arguments 1)
    (writes named progress.world (mirrored progress.world.cells (cell_number receiver)) seen))
row_onward named code (row.Method m) sel receiver arguments site progress has seen =
    begun_onward named m receiver (argument arguments 0) (argument arguments 1) site progress
row_onward named code row.Apply sel receiver arguments site progress has seen =
    mixed_onward named code receiver (shape_of_value progress.world.cells receiver) (argument arguments 0) site progress refl
row_onward named code row.Value sel receiver arguments site progress has seen = onward_not named progress
row_onward named code row.ValueWithArguments sel receiver arguments site progress has seen =
    array_onward named receiver (argument arguments 0) site progress
row_onward named code row.NumArgs sel receiver arguments site progress has seen = onward_not named progress

-- ---- members

given_onward : (named : List Value) (arguments : Arguments) (progress : Progress) (go : List Value → Progress → Control)
    → ((values : List Value) (next : Progress) → Going named next (reached (go values next))) → Going named progress (reached (given arguments progress go))
given_onward named (Listed values) progress go goes = goes values progress
given_onward named (Wrapped sel values) progress go goes =
    cells_onward named (ArrayCell values) progress _ (may_come progress.world.cells (ArrayCell values) refl refl) refl
    (λ next. let message = MessageCell sel (value.Ref (heap_size progress.world.cells)) in cells_onward named message next _ (may_come next.world.cells message refl refl) refl (λ last. goes _ last))

more_onward : (named : List Value) (progress : Progress) → Going named progress (one_more progress)
more_onward named progress = record { world = moving_not named progress.world; begun = omega arith }

method_onward :
    (named : List Value) (code : CodeProgram) (body holder : ℕ) (receiver : Value) (arguments : Arguments) (site : Site) (progress : Progress) →
    Going named progress (reached (method_entered code body holder receiver arguments site progress))
method_onward named code body holder receiver arguments site progress =
    frame_onward named progress _ (λ next. given_onward named arguments next _ (λ values last.
    opened_onward named code (λ activation locals progress. Enter FromMethod activation locals (one_more progress)) _ values last (λ running locals end. more_onward named end)))

factory_onward : (named : List Value) (code : CodeProgram) (class : ℕ) (arguments : Arguments) (site : Site) (progress : Progress) →
    Going named progress (reached (factory_entered code class arguments site progress))
factory_onward named code class arguments site progress =
    frame_onward named progress _ (λ next. given_onward named arguments next (λ values progress. instance code class values site progress) (λ values last. instance_onward named code class values site last))

set_onward : (named : List Value) (word : ℕ) (receiver : Value) (arguments : Arguments) (progress : Progress) → Contains named receiver →
    Going named progress (reached (set word receiver arguments progress))
set_onward named word receiver arguments progress has =
    given_onward named arguments progress _ (λ values next. onward_in named next _ (storing_moves named next.world receiver word (first_of values) has))

nested_in_onward : (named : List Value) (code : CodeProgram) (receiver : Value) (holder class : ℕ) (site : Site) (progress : Progress) →
    Contains named receiver → Going named progress (reached (nested_in code receiver holder class site progress))
nested_in_onward named code (value.Ref object) holder class site progress has =
    nested_onward named code object holder class (kept_class progress.world.cells code object holder class) site progress has
nested_in_onward named code value.Nil holder class site progress has = onward_not named progress
nested_in_onward named code value.True holder class site progress has = onward_not named progress
nested_in_onward named code value.False holder class site progress has = onward_not named progress
nested_in_onward named code (value.Int number) holder class site progress has = onward_not named progress
nested_in_onward named code (value.Sym sel) holder class site progress has = onward_not named progress
nested_in_onward named code (value.Kernel kernel) holder class site progress has = onward_not named progress

-- a member with its arguments as they stand
listed_onward :
    (named : List Value) (code : CodeProgram) (member : Found) (sel : Sel) (receiver : Value) (values : List Value) (site : Site) (progress : Progress) →
    Contains named receiver → Contains named (mirrored progress.world.cells (cell_number receiver))
    → Going named progress (reached (done_with code member sel receiver (Listed values) site progress))
listed_onward named code (found.Method body holder) sel receiver values site progress has seen =
    method_onward named code body holder receiver (Listed values) site progress
listed_onward named code (found.Getter holder word) sel receiver values site progress has seen = onward_not named progress
listed_onward named code (found.Setter holder word) sel receiver values site progress has seen =
    set_onward named word receiver (Listed values) progress has
listed_onward named code (found.Nested class holder) sel receiver values site progress has seen =
    nested_in_onward named code receiver holder class site progress has
listed_onward named code (found.Factory class) sel receiver values site progress has seen =
    factory_onward named code class (Listed values) site progress
listed_onward named code (found.Kernel number) sel receiver values site progress has seen =
    row_onward named code (row_at number) sel receiver values site progress has seen
listed_onward named code found.NotPublic sel receiver values site progress has seen = onward_not named progress
listed_onward named code found.Absent sel receiver values site progress has seen = onward_not named progress

-- a send that found nothing
absent_onward :
    (named : List Value) (code : CodeProgram) (member : Found) (sel : Sel) (receiver : Value) (values : List Value) (site : Site) (progress : Progress) →
    Contains named receiver
    → Going named progress (reached (not_found code member sel receiver values site progress))
absent_onward named code (found.Method body holder) sel receiver values site progress has =
    method_onward named code body holder receiver (Wrapped sel values) site progress
absent_onward named code (found.Getter holder word) sel receiver values site progress has = onward_not named progress
absent_onward named code (found.Setter holder word) sel receiver values site progress has =
    set_onward named word receiver (Wrapped sel values) progress has
absent_onward named code (found.Nested class holder) sel receiver values site progress has =
    nested_in_onward named code receiver holder class site progress has
absent_onward named code (found.Factory class) sel receiver values site progress has =
    factory_onward named code class (Wrapped sel values) site progress
absent_onward named code (found.Kernel number) sel receiver values site progress has = onward_not named progress
absent_onward named code found.NotPublic sel receiver values site progress has = onward_not named progress
absent_onward named code found.Absent sel receiver values site progress has = onward_not named progress

pub answered_onward :
    (named : List Value) (code : CodeProgram) (member : Found) (sel : Sel) (receiver : Value) (values : List Value) (site : Site) (progress : Progress) →
    Contains named receiver → Contains named (mirrored progress.world.cells (cell_number receiver))
    → Going named progress (reached (answered_by code member sel receiver values site progress))
answered_onward named code found.Absent sel receiver values site progress has seen =
    absent_onward named code (found_from progress.world.cells code (start_of progress.world.cells receiver) (own_number code DoesNotUnderstand) Inner) sel receiver values site progress has
answered_onward named code (found.Method body holder) sel receiver values site progress has seen =
    listed_onward named code (found.Method body holder) sel receiver values site progress has seen
answered_onward named code (found.Getter holder word) sel receiver values site progress has seen =
    listed_onward named code (found.Getter holder word) sel receiver values site progress has seen
answered_onward named code (found.Setter holder word) sel receiver values site progress has seen =
    listed_onward named code (found.Setter holder word) sel receiver values site progress has seen
answered_onward named code (found.Nested class holder) sel receiver values site progress has seen =
    listed_onward named code (found.Nested class holder) sel receiver values site progress has seen
answered_onward named code (found.Factory class) sel receiver values site progress has seen =
    listed_onward named code (found.Factory class) sel receiver values site progress has seen
answered_onward named code (found.Kernel number) sel receiver values site progress has seen =
    listed_onward named code (found.Kernel number) sel receiver values site progress has seen
answered_onward named code found.NotPublic sel receiver values site progress has seen =
    listed_onward named code found.NotPublic sel receiver values site progress has seen

-- ---- sends

-- a send to a receiver, whatever it finds
pub stepped_onward : (code : CodeProgram) (member : Heap → Found) (sel : Sel) (receiver : Heap → Value) (values : List Value) (site : Heap → Site) (progress : Progress)
    → Going (touched progress.world.cells (receiver progress.world.cells)) progress (reached (charged halts Steps (stepped progress.world) progress
    (answered_by code (member progress.world.cells) sel (receiver progress.world.cells) values (site progress.world.cells))))
stepped_onward code member sel receiver values site progress =
    let to : Value = receiver progress.world.cells in
    charge_onward (touched progress.world.cells to) Steps (stepped progress.world) progress _ (λ world e. step_moves (touched progress.world.cells to) progress.world world e)
    (λ world e. answered_onward (touched progress.world.cells to) code (member progress.world.cells) sel to values (site progress.world.cells) (in_world progress world)
    (0, omega arith, refl) (1, omega arith, ap (λ cells. mirrored cells (cell_number to)) (sym (step_cells progress.world world e))))

-- A send goes onward, and changes its receiver and what that mirrors alone.
pub sent_onward : (code : CodeProgram) (activation : Activation) (target : Target) (sel : Sel) (values : List Value) (place : Option SourcePlace) (progress : Progress)
    → Going (touched progress.world.cells (receiver_of progress.world.cells activation target)) progress (reached (sent code activation target sel values place progress))
sent_onward code activation target sel values place progress =
    stepped_onward code (λ cells. found_at cells code activation target sel.0) sel (λ cells. receiver_of cells activation target) values (λ cells. site_at cells place (receiver_of cells activation target) sel) progress

pub plain_sent_onward : (code : CodeProgram) (receiver : Value) (sel : Sel) (values : List Value) (place : Option SourcePlace) (progress : Progress)
    → Going (touched progress.world.cells receiver) progress (reached (sent_plain code receiver sel values place progress))
plain_sent_onward code receiver sel values place progress =
    stepped_onward code (λ cells. found_from cells code (start_of cells receiver) sel.0 Plain) sel (λ cells. receiver) values (λ cells. site_at cells place receiver sel) progress

pub performed_onward : (code : CodeProgram) (receiver : Value) (sel : Sel) (array : ℕ) (site : Site) (progress : Progress)
    → Going (touched progress.world.cells receiver) progress (reached (performed code receiver sel array site progress))
performed_onward code receiver sel array site progress =
    plain_sent_onward code receiver sel (items_of progress.world.cells (value.Ref array)) site.place progress
