-- Rows of the kernel in a lawful run.
use Rattle.std.proofs.Common.{◌≡◌, ℕ, List, refl, Option, Some, None, All, Bool, true, false, cond}
use Rattle.std.specs.Prelude.{Result, Ok, Err, IfOk, ℤ, neg_ℤ, ◌+ℤ◌, ◌-ℤ◌, ◌*ℤ◌, int_lt, int_le, bit_and, bit_or, bit_xor}
use Rattle.std.specs.Option.{option_map_or}
use Rattle.ns_base.specs.declared.selector.Sel.{Sel}
use Rattle.ns_code.specs.declared.program.CodeProgram.{CodeProgram}
use Rattle.ns_world.specs.declared.value.Value.{Value}
use Rattle.ns_world.specs.declared.value.Value.TheVariants as value
use Rattle.ns_world.specs.declared.ending.Fault.{Fault}
use Rattle.ns_world.specs.declared.ending.Fault.TheVariants.{Kind}
use Rattle.ns_world.specs.declared.ending.Kind.TheVariants as kind
use Rattle.ns_world.specs.declared.cell.NewCell.TheVariants as new
use Rattle.ns_world.specs.Cell.{Cell, ObjectCell, ClassCell, BlockCell, EnvironmentCell, ArrayCell, TextCell, FacetCell, MirrorCell, MessageCell, shape_of}
use Rattle.ns_world.specs.Heap.{Heap, find_cell, cell_number}
use Rattle.ns_world.specs.World.{World}
use Rattle.ns_world.specs.Lawful.{IsLawful, IsLiveValue}
use Rattle.ns_world.specs.declared.kernel_parts.IntRow.{IntRow}
use Rattle.ns_world.specs.declared.kernel_parts.IntRow.TheVariants as int
use Rattle.ns_kint.specs.Division.{floored_quotient, floored_remainder}
use Rattle.ns_kint.specs.Integer.{is_integer, integer_of, divisor_of, fitting, given, on_bits, integer, same_integer}
use Rattle.ns_world.specs.Booleans.{truth}
use Rattle.ns_world.specs.declared.kernel_parts.DataRow.{DataRow}
use Rattle.ns_world.specs.declared.kernel_parts.DataRow.TheVariants as values
use Rattle.ns_kdata.specs.Outcome.{RowOutcome, Answers, Fails}
use Rattle.ns_kdata.specs.Arguments.{argument, number_of}
use Rattle.ns_kdata.specs.Rows.{message_selector}
use Rattle.ns_kdata.specs.Datum.{datum}
use Rattle.ns_kdata.specs.Living.{AnswersLive}
use Rattle.ns_kdata.specs.Lawful.{LeavesLawful}
use Rattle.ns_kdata.specs.laws.Living.{rows_live}
use Rattle.ns_kdata.specs.laws.Lawful.{rows_lawful}
use Rattle.ns_kdata.specs.laws.LivingItems.{get_live}
use Rattle.ns_world.specs.declared.kernel_parts.FacetRow.{FacetRow}
use Rattle.ns_world.specs.declared.kernel_parts.FacetRow.TheVariants as facet
use Rattle.ns_facets.specs.Facet.{facet as facet_outcome, board_after}
use Rattle.ns_facets.specs.laws.Living.{rows_live as facets_live}
use Rattle.ns_facets.specs.laws.Lawful.{rows_lawful as facets_lawful}
use Rattle.ns_mirror.specs.declared.row.Mirrored.TheVariants.{Answer, Perform}
use Rattle.ns_mirror.specs.Looking.{mirrored_in, mirrored}
use Rattle.ns_mirror.specs.Mirror.{Reflected, Reflects, Refuses, mirror}
use Rattle.ns_mirror.specs.Living.{ReflectsLive}
use Rattle.ns_mirror.specs.Lawful.{ReflectsLawful}
use Rattle.ns_mirror.specs.laws.Living.{rows_live as mirrors_live}
use Rattle.ns_mirror.specs.laws.Lawful.{rows_lawful as mirrors_lawful}
use Rattle.ns_world.specs.declared.kernel_row.Row.{Row}
use Rattle.ns_world.specs.declared.kernel_row.Row.TheVariants as row
use Rattle.ns_moves.specs.declared.site.Site.{Site}
use Rattle.ns_moves.specs.Control.{Progress}
use Rattle.ns_moves.specs.Kernel.{outcome_reached, answer_reached, reflected_reached, facet_reached, message_refused, data_reached, row_reached}
use Rattle.ns_moves.specs.Lawful.{LawfulRun, LawfulControl}
use Rattle.ns_moves.specs.lemmas.LawfulClasses.{mixed_lawful}
use Rattle.ns_moves.specs.laws.LawfulBlocks.{array_lawful, begun_lawful}

-- an argument is live, or nil where there is none
argument_live : (heap : Heap) (code : CodeProgram) (arguments : List Value) (place : ℕ) → All (IsLiveValue heap code) arguments →
    IsLiveValue heap code (argument arguments place)
argument_live heap code arguments place live = get_live (IsLiveValue heap code) arguments place live (tt, refl)

outcome_lawful : (code : CodeProgram) (outcome : RowOutcome) (site : Site) (progress : Progress) → LawfulRun code progress →
    LeavesLawful code outcome → AnswersLive code outcome → LawfulControl code (outcome_reached outcome site progress)
outcome_lawful code (Answers answer world) site progress lawful after live = (after, live)
outcome_lawful code (Fails fault) site progress lawful after live = lawful

-- ---- Integer

given_live : (heap : Heap) (code : CodeProgram) (r : Result ℤ Fault) (f : ℤ → Result Value Fault) →
    ((n : ℤ) → IfOk (f n) (λ v. IsLiveValue heap code v)) → IfOk (given r f) (λ v. IsLiveValue heap code v)
given_live heap code (Ok n) f live = live n
given_live heap code (Err fault) f live = tt

fitting_live : (heap : Heap) (code : CodeProgram) (n : ℤ) → IfOk (fitting n) (λ v. IsLiveValue heap code v)
fitting_live heap code n = tested (is_integer n)
  where
    tested : (b : Bool) → IfOk (cond b (Ok (value.Int n)) (Err (Kind kind.Overflow))) (λ v. IsLiveValue heap code v)
    tested true = (tt, refl)
    tested false = tt

truth_live : (heap : Heap) (code : CodeProgram) (b : Bool) → IsLiveValue heap code (truth b)
truth_live heap code true = (tt, refl)
truth_live heap code false = (tt, refl)

int_live : (heap : Heap) (code : CodeProgram) (n : ℤ) → IsLiveValue heap code (value.Int n)
int_live heap code n = (tt, refl)

bits_live : (heap : Heap) (code : CodeProgram) (both : ℕ → ℕ → ℕ) (left right : ℤ) → IsLiveValue heap code (on_bits both left right)
bits_live heap code both left right = (tt, refl)

integer_live : (heap : Heap) (code : CodeProgram) (r : IntRow) (left : ℤ) (right : Value) →
    IfOk (integer r left right) (λ v. IsLiveValue heap code v)
integer_live heap code int.Add left right =
    given_live heap code (integer_of right) (λ n. fitting (left +ℤ n)) (λ n. fitting_live heap code (left +ℤ n))
integer_live heap code int.Subtract left right =
    given_live heap code (integer_of right) (λ n. fitting (left -ℤ n)) (λ n. fitting_live heap code (left -ℤ n))
integer_live heap code int.Multiply left right =
    given_live heap code (integer_of right) (λ n. fitting (left *ℤ n)) (λ n. fitting_live heap code (left *ℤ n))
integer_live heap code int.Quotient left right =
    given_live heap code (divisor_of right) (λ n. fitting (floored_quotient left n)) (λ n. fitting_live heap code (floored_quotient left n))
integer_live heap code int.Remainder left right =
    given_live heap code (divisor_of right) (λ n. Ok (value.Int (floored_remainder left n))) (λ n. int_live heap code (floored_remainder left n))
integer_live heap code int.Less left right =
    given_live heap code (integer_of right) (λ n. Ok (truth (int_lt left n))) (λ n. truth_live heap code (int_lt left n))
integer_live heap code int.LessEqual left right =
    given_live heap code (integer_of right) (λ n. Ok (truth (int_le left n))) (λ n. truth_live heap code (int_le left n))
integer_live heap code int.Greater left right =
    given_live heap code (integer_of right) (λ n. Ok (truth (int_lt n left))) (λ n. truth_live heap code (int_lt n left))
integer_live heap code int.GreaterEqual left right =
    given_live heap code (integer_of right) (λ n. Ok (truth (int_le n left))) (λ n. truth_live heap code (int_le n left))
integer_live heap code int.Equal left right = truth_live heap code (same_integer left right)
integer_live heap code int.BitAnd left right =
    given_live heap code (integer_of right) (λ n. Ok (on_bits bit_and left n)) (λ n. bits_live heap code bit_and left n)
integer_live heap code int.BitOr left right =
    given_live heap code (integer_of right) (λ n. Ok (on_bits bit_or left n)) (λ n. bits_live heap code bit_or left n)
integer_live heap code int.BitXor left right =
    given_live heap code (integer_of right) (λ n. Ok (on_bits bit_xor left n)) (λ n. bits_live heap code bit_xor left n)
integer_live heap code int.Negated left right = fitting_live heap code (neg_ℤ left)

answer_lawful : (code : CodeProgram) (r : Result Value Fault) (site : Site) (progress : Progress) → LawfulRun code progress →
    IfOk r (λ v. IsLiveValue progress.world.cells code v) → LawfulControl code (answer_reached r site progress)
answer_lawful code (Ok answer) site progress lawful live = (lawful, live)
answer_lawful code (Err fault) site progress lawful live = lawful

-- ---- facets and mirrors

facet_lawful : (code : CodeProgram) (r : FacetRow) (arguments : List Value) (site : Site) (progress : Progress) → LawfulRun code progress →
    LawfulControl code (facet_reached code r arguments site progress)
facet_lawful code r arguments site progress lawful =
    outcome_lawful code (facet_outcome progress.world code r arguments progress.board) site (record progress { board = board_after r arguments progress.board }) lawful
    (facets_lawful progress.world code r (argument arguments 0) (argument arguments 1) progress.board lawful) (facets_live progress.world code r (argument arguments 0) (argument arguments 1) progress.board)

array_is_live : (heap : Heap) (code : CodeProgram) (array : ℕ) (items : List Value) → find_cell heap array ≡ Some (ArrayCell items) →
    IsLiveValue heap code (value.Ref array)
array_is_live heap code array items e = (rw e refl, rw e refl)

reflected_lawful : (code : CodeProgram) (r : Reflected) (site : Site) (progress : Progress) → LawfulRun code progress →
    ReflectsLawful code r → ReflectsLive code r → LawfulControl code (reflected_reached r site progress)
reflected_lawful code (Reflects (Answer answer) world) site progress lawful after live = (after, live)
reflected_lawful code (Reflects (Perform receiver sel array) world) site progress lawful after (live, is, items, found, many) =
    (after, live, array_is_live world.cells code array items found)
reflected_lawful code (Refuses fault) site progress lawful after live = lawful

-- ---- data

refused_lawful : (code : CodeProgram) (outcome : RowOutcome) (selector : Value) (site : Site) (progress : Progress) →
    LawfulRun code progress → LeavesLawful code outcome → AnswersLive code outcome →
    LawfulControl code (message_refused outcome selector site progress)
refused_lawful code (Answers answer world) selector site progress lawful after live = (after, live)
refused_lawful code (Fails fault) selector site progress lawful after live = lawful

data_row_lawful : (code : CodeProgram) (r : DataRow) (receiver : Value) (arguments : List Value) (site : Site) (progress : Progress) →
    LawfulRun code progress → All (IsLiveValue progress.world.cells code) arguments
    → LawfulControl code (outcome_reached (datum progress.world code r receiver arguments) site progress)
data_row_lawful code r receiver arguments site progress lawful live =
    outcome_lawful code (datum progress.world code r receiver arguments) site progress lawful
    (rows_lawful progress.world code r receiver (argument arguments 0) (argument arguments 1) lawful (argument_live progress.world.cells code arguments 1 live))
    (rows_live progress.world code r receiver (argument arguments 0) (argument arguments 1) lawful (argument_live progress.world.cells code arguments 1 live))

data_lawful : (code : CodeProgram) (r : DataRow) (receiver : Value) (arguments : List Value) (site : Site) (progress : Progress) →
    LawfulRun code progress → All (IsLiveValue progress.world.cells code) arguments →
    LawfulControl code (data_reached code r receiver arguments site progress)
data_lawful code values.DoesNotUnderstand receiver arguments site progress lawful live =
    refused_lawful code (datum progress.world code values.DoesNotUnderstand receiver arguments) (message_selector progress.world.cells (argument arguments 0)) site progress lawful tt tt
data_lawful code values.Identical receiver arguments site progress lawful live =
    data_row_lawful code values.Identical receiver arguments site progress lawful live
data_lawful code values.Equal receiver arguments site progress lawful live =
    data_row_lawful code values.Equal receiver arguments site progress lawful live
data_lawful code values.IsNil receiver arguments site progress lawful live =
    data_row_lawful code values.IsNil receiver arguments site progress lawful live
data_lawful code values.NotNil receiver arguments site progress lawful live =
    data_row_lawful code values.NotNil receiver arguments site progress lawful live
data_lawful code values.KernelObject receiver arguments site progress lawful live =
    data_row_lawful code values.KernelObject receiver arguments site progress lawful live
data_lawful code values.NewObject receiver arguments site progress lawful live =
    data_row_lawful code values.NewObject receiver arguments site progress lawful live
data_lawful code values.NewArray receiver arguments site progress lawful live =
    data_row_lawful code values.NewArray receiver arguments site progress lawful live
data_lawful code values.NilPrint receiver arguments site progress lawful live =
    data_row_lawful code values.NilPrint receiver arguments site progress lawful live
data_lawful code values.Not receiver arguments site progress lawful live =
    data_row_lawful code values.Not receiver arguments site progress lawful live
data_lawful code values.BooleanPrint receiver arguments site progress lawful live =
    data_row_lawful code values.BooleanPrint receiver arguments site progress lawful live
data_lawful code values.And receiver arguments site progress lawful live =
    data_row_lawful code values.And receiver arguments site progress lawful live
data_lawful code values.Or receiver arguments site progress lawful live =
    data_row_lawful code values.Or receiver arguments site progress lawful live
data_lawful code values.IntegerPrint receiver arguments site progress lawful live =
    data_row_lawful code values.IntegerPrint receiver arguments site progress lawful live
data_lawful code values.TextSize receiver arguments site progress lawful live =
    data_row_lawful code values.TextSize receiver arguments site progress lawful live
data_lawful code values.TextAt receiver arguments site progress lawful live =
    data_row_lawful code values.TextAt receiver arguments site progress lawful live
data_lawful code values.TextCopy receiver arguments site progress lawful live =
    data_row_lawful code values.TextCopy receiver arguments site progress lawful live
data_lawful code values.TextJoin receiver arguments site progress lawful live =
    data_row_lawful code values.TextJoin receiver arguments site progress lawful live
data_lawful code values.TextEqual receiver arguments site progress lawful live =
    data_row_lawful code values.TextEqual receiver arguments site progress lawful live
data_lawful code values.TextLess receiver arguments site progress lawful live =
    data_row_lawful code values.TextLess receiver arguments site progress lawful live
data_lawful code values.TextPrint receiver arguments site progress lawful live =
    data_row_lawful code values.TextPrint receiver arguments site progress lawful live
data_lawful code values.SymbolSize receiver arguments site progress lawful live =
    data_row_lawful code values.SymbolSize receiver arguments site progress lawful live
data_lawful code values.SymbolText receiver arguments site progress lawful live =
    data_row_lawful code values.SymbolText receiver arguments site progress lawful live
data_lawful code values.SymbolPrint receiver arguments site progress lawful live =
    data_row_lawful code values.SymbolPrint receiver arguments site progress lawful live
data_lawful code values.SymbolLess receiver arguments site progress lawful live =
    data_row_lawful code values.SymbolLess receiver arguments site progress lawful live
data_lawful code values.ArraySize receiver arguments site progress lawful live =
    data_row_lawful code values.ArraySize receiver arguments site progress lawful live
data_lawful code values.ArrayAt receiver arguments site progress lawful live =
    data_row_lawful code values.ArrayAt receiver arguments site progress lawful live
data_lawful code values.ArrayPut receiver arguments site progress lawful live =
    data_row_lawful code values.ArrayPut receiver arguments site progress lawful live
data_lawful code values.MessageSelector receiver arguments site progress lawful live =
    data_row_lawful code values.MessageSelector receiver arguments site progress lawful live
data_lawful code values.MessageArguments receiver arguments site progress lawful live =
    data_row_lawful code values.MessageArguments receiver arguments site progress lawful live

pub mirrored_live : (world : World) (code : CodeProgram) (number : ℕ) → IsLawful world code →
    IsLiveValue world.cells code (mirrored world.cells number)
mirrored_live world code number lawful = found (find_cell world.cells number) refl
  where
    found : (o : Option Cell) → find_cell world.cells number ≡ o → IsLiveValue world.cells code (mirrored_in (option_map_or shape_of o (new.Mirror value.Nil)))
    found (Some (MirrorCell shown)) e = lawful.cells number (MirrorCell shown) e
    found None e = (tt, refl)
    found (Some (ObjectCell class entries)) e = (tt, refl)
    found (Some (ClassCell decl base encl holder over)) e = (tt, refl)
    found (Some (BlockCell body env home receiver holder)) e = (tt, refl)
    found (Some (EnvironmentCell parent locals)) e = (tt, refl)
    found (Some (ArrayCell items)) e = (tt, refl)
    found (Some (TextCell bytes)) e = (tt, refl)
    found (Some (FacetCell kind')) e = (tt, refl)
    found (Some (MessageCell sel args)) e = (tt, refl)

-- a row of the kernel
pub row_lawful :
    (code : CodeProgram) (r : Row) (sel : Sel) (receiver : Value) (arguments : List Value) (site : Site) (progress : Progress) →
    LawfulRun code progress → IsLiveValue progress.world.cells code receiver → All (IsLiveValue progress.world.cells code) arguments
    → LawfulControl code (row_reached code r sel receiver arguments site progress)
row_lawful code (row.Data d) sel receiver arguments site progress lawful live all =
    data_lawful code d receiver arguments site progress lawful all
row_lawful code (row.Integer i) sel receiver arguments site progress lawful live all =
    answer_lawful code (integer i (number_of receiver) (argument arguments 0)) site progress lawful (integer_live progress.world.cells code i (number_of receiver) (argument arguments 0))
row_lawful code row.Top sel receiver arguments site progress lawful live all =
    facet_lawful code (facet.Top sel) arguments site progress lawful
row_lawful code (row.Facet f) sel receiver arguments site progress lawful live all = facet_lawful code f arguments site progress lawful
row_lawful code (row.Mirror m) sel receiver arguments site progress lawful live all =
    let shown = mirrored progress.world.cells (cell_number receiver) in
    let one = argument_live progress.world.cells code arguments 0 all in
    let two = argument_live progress.world.cells code arguments 1 all in
    reflected_lawful code (mirror progress.world code m (cell_number receiver) arguments) site progress lawful
    (mirrors_lawful progress.world code m shown (argument arguments 0) (argument arguments 1) lawful one two)
    (mirrors_live progress.world code m shown (argument arguments 0) (argument arguments 1) lawful (mirrored_live progress.world code (cell_number receiver) lawful) one two)
row_lawful code (row.Method m) sel receiver arguments site progress lawful live all =
    begun_lawful code m receiver (argument arguments 0) (argument arguments 1) site progress lawful live (argument_live progress.world.cells code arguments 0 all) (argument_live progress.world.cells code arguments 1 all)
row_lawful code row.Apply sel receiver arguments site progress lawful live all =
    mixed_lawful code receiver (argument arguments 0) site progress lawful
row_lawful code row.Value sel receiver arguments site progress lawful live all = (lawful, live, all)
row_lawful code row.ValueWithArguments sel receiver arguments site progress lawful live all =
    array_lawful code receiver (argument arguments 0) site progress lawful live
row_lawful code row.NumArgs sel receiver arguments site progress lawful live all = (lawful, (tt, refl))
