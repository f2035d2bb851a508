-- What a send hands on fits.
use Rattle.std.proofs.Common.{◌≡◌, ℕ, suc, ◌+◌, List, [], ◌∷◌, length, get_or, replicate, refl, ap, sym, ◌∙◌, subst, arith, All, Option, Some, None, Bool, true, false, cond, unwrap_or, slice_get}
use Rattle.std.specs.Prelude.{Contains, IsSome, Result, Ok, Err, pos, nat_lt}
use Rattle.std.specs.Option.{option_map_or}
use Rattle.ns_code.specs.declared.class.ClassCode.{ClassCode}
use Rattle.ns_code.specs.Soundness.{method_kind, initialiser_kind, clause_kind, instance_side}
use Rattle.ns_world.specs.Lawful.{IsLawful, IsLiveValue, HasHolder, FitsEnvironment, class_of_object}
use Rattle.ns_world.specs.Later.{IsLater, RunsOn}
use Rattle.ns_world.specs.laws.Above.{goes_on}
use Rattle.ns_world.specs.laws.Charging.{step_keeps}
use Rattle.ns_world.specs.laws.Classes.{lawful_small, declaration_stays}
use Rattle.ns_world.specs.laws.Leading.{later_same, later_on, later_made, later_entered, class_same}
use Rattle.ns_world.specs.laws.Lasting.{declaration_lasts}
use Rattle.ns_world.specs.laws.Twins.{twins_of_shape}
use Rattle.ns_find.specs.Belonging.{HasNested}
use Rattle.ns_find.specs.Named.{IsInitialiserOf}
use Rattle.ns_find.specs.laws.SoundBodies.{clause_there}
use Rattle.ns_kdata.specs.laws.LivingItems.{get_live, cell_items_live}
use Rattle.ns_mirror.specs.Living.{ReflectsLive}
use Rattle.ns_mirror.specs.laws.Living.{rows_live as mirrors_live}
use Rattle.ns_moves.specs.Onward.{reached, touched}
use Rattle.ns_moves.specs.Lawful.{LawfulRun, LawfulControl, HasClass, FitsExit, FitsSelector, FitsActivation}
use Rattle.ns_moves.specs.Fitting.{FitsNext, FitsEntered, FitsEnd, EndsOwn, StandsWell, environment_body, ends_kind}
use Rattle.ns_moves.specs.laws.Growing.{step_cells}
use Rattle.ns_moves.specs.laws.Onward.{charged_all, may_come}
use Rattle.ns_moves.specs.laws.SendsOnward.{answered_onward}
use Rattle.ns_moves.specs.lemmas.LawfulBodies.{new_found}
use Rattle.ns_moves.specs.lemmas.LawfulClasses.{object_live}
use Rattle.ns_moves.specs.lemmas.LawfulRows.{mirrored_live}
use Rattle.ns_moves.specs.laws.LawfulSends.{answered_lawful}
use Rattle.ns_moves.specs.lemmas.Nesting.{nested_inner}
use Rattle.ns_moves.specs.Suits.{Suits}
use Rattle.ns_moves.specs.lemmas.Suiting.{found_suits}
use Rattle.ns_moves.specs.Blocks.{is_block}
use Rattle.ns_moves.specs.Fitting.{belongs_to, counts_fit, FitsMethod}
use Rattle.ns_moves.specs.Suiting.{RowSuits, FoundSuits}
use Rattle.ns_moves.specs.lemmas.Counts.{first_within, same_within}
use Rattle.ns_moves.specs.lemmas.Running.{BodyRuns, Runs, body_runs, instance_fits, found_runs}
use Rattle.ns_moves.specs.lemmas.Lasting.{block_lasts, belonging_lasts, activation_lasts, exit_lasts, arguments_last, array_size_lasts}
use Rattle.ns_base.specs.declared.selector.Sel.{Sel}
use Rattle.ns_code.specs.declared.program.CodeProgram.{CodeProgram}
use Rattle.ns_code.specs.declared.own.Own.TheVariants.{DoesNotUnderstand}
use Rattle.ns_world.specs.declared.value.Value.{Value}
use Rattle.ns_world.specs.declared.value.Value.TheVariants as value
use Rattle.ns_world.specs.declared.ending.Fault.{Fault}
use Rattle.ns_world.specs.declared.ending.Kind.TheVariants.{WrongArity, WrongKind}
use Rattle.ns_world.specs.declared.ending.LimitKind.TheVariants.{Steps, Depth, Cells}
use Rattle.ns_world.specs.Cell.{Cell, ObjectCell, ClassCell, BlockCell, EnvironmentCell, ArrayCell, TextCell, FacetCell, MirrorCell, MessageCell}
use Rattle.ns_world.specs.Heap.{heap_size, find_cell, is_class, chain_of, superclass_of, cell_number}
use Rattle.ns_world.specs.World.{World, made, stepped, entered}
use Rattle.ns_world.specs.Layout.{declaration_of, layout_of}
use Rattle.ns_world.specs.Starts.{start_of}
use Rattle.ns_classes.specs.Nested.{kept_class}
use Rattle.ns_find.specs.declared.found.Found.{Found}
use Rattle.ns_find.specs.declared.found.Found.TheVariants as found
use Rattle.ns_find.specs.declared.found.Sending.TheVariants.{Inner}
use Rattle.ns_find.specs.Find.{found_from}
use Rattle.ns_kint.specs.Integer.{integer}
use Rattle.ns_world.specs.declared.kernel_parts.DataRow.{DataRow}
use Rattle.ns_world.specs.declared.kernel_parts.DataRow.TheVariants as values
use Rattle.ns_kdata.specs.Outcome.{RowOutcome, Answers, Fails}
use Rattle.ns_kdata.specs.Arguments.{argument, number_of, items_of, is_array}
use Rattle.ns_kdata.specs.Rows.{message_selector}
use Rattle.ns_kdata.specs.Datum.{datum}
use Rattle.ns_world.specs.declared.kernel_parts.FacetRow.{FacetRow}
use Rattle.ns_world.specs.declared.kernel_parts.FacetRow.TheVariants as facet
use Rattle.ns_facets.specs.Facet.{facet as facet_outcome, board_after}
use Rattle.ns_mirror.specs.declared.row.Mirrored.TheVariants.{Answer, Perform}
use Rattle.ns_mirror.specs.Looking.{mirrored}
use Rattle.ns_mirror.specs.Mirror.{Reflected, Reflects, Refuses, mirror}
use Rattle.ns_world.specs.declared.kernel_parts.KMethod.{KMethod}
use Rattle.ns_world.specs.declared.kernel_parts.KMethod.TheVariants as method
use Rattle.ns_kcode.specs.Rows.{beginning}
use Rattle.ns_world.specs.declared.kernel_row.Row.{Row}
use Rattle.ns_world.specs.declared.kernel_row.Row.TheVariants as row
use Rattle.ns_moves.specs.declared.site.Site.{Site}
use Rattle.ns_moves.specs.Control.{Perform as WaitsToPerform, Progress, in_world, Activation, Exit, FromMethod, FromBody, FromClause, Control, Now, Enter, Evaluate, Begin, halts, fails, charged}
use Rattle.ns_moves.specs.Bodies.{has_environment, first_locals, parameters_of, initialiser_of, clause_of, no_home, opened}
use Rattle.ns_moves.specs.Classes.{head, nested, instance}
use Rattle.ns_moves.specs.Blocks.{value_with_arguments, has_arguments, turns_of, method_begun}
use Rattle.ns_world.specs.KernelTable.{row_at}
use Rattle.ns_moves.specs.Kernel.{outcome_reached, answer_reached, reflected_reached, facet_reached, message_refused, data_reached, row_reached}
use Rattle.ns_moves.specs.Sends.{Arguments, Listed, Wrapped, given, one_more, method_entered, factory_entered, set, nested_in, done_with, not_found, answered_by}
use Rattle.ns_code.specs.Selector.{own_number, selector_arity}
use Rattle.ns_moves.specs.lemmas.OwnSelector.{one_message}
use Rattle.ns_moves.specs.lemmas.Opening.{FitsAround, IsOpened, nothing_around, opened_bare, opened_over}

-- What is to be shown of where control goes from a world, where it goes on lawfully.
abbrev pub ShownLater : ℕ → World → CodeProgram → Control → Type 0
ShownLater own old code (Now after) = Unit {0}
ShownLater own old code (Enter exit activation locals progress) =
    RunsOn code old progress.world → FitsEntered progress.world.cells code activation locals × FitsEnd own progress.world.cells code exit activation
ShownLater own old code (Evaluate block arguments site progress) =
    RunsOn code old progress.world → is_block progress.world.cells block ≡ true
ShownLater own old code (Begin method state site progress) = RunsOn code old progress.world → FitsMethod progress.world.cells method state
ShownLater own old code (WaitsToPerform receiver sel array site progress) =
    RunsOn code old progress.world → FitsSelector progress.world.cells code sel (items_of progress.world.cells (value.Ref array)) × (is_array progress.world.cells (value.Ref array) ≡ true)

-- the same of a send
abbrev pub FitsLater : World → CodeProgram → Control → Type 0
FitsLater old code control = ShownLater initialiser_kind old code control

-- ---- rows of the kernel

outcome_fits : (old : World) (code : CodeProgram) (outcome : RowOutcome) (site : Site) (progress : Progress) →
    FitsLater old code (outcome_reached outcome site progress)
outcome_fits old code (Answers answer world) site progress = tt
outcome_fits old code (Fails fault) site progress = tt

answer_fits : (old : World) (code : CodeProgram) (r : Result Value Fault) (site : Site) (progress : Progress) →
    FitsLater old code (answer_reached r site progress)
answer_fits old code (Ok answer) site progress = tt
answer_fits old code (Err fault) site progress = tt

reflected_fits : (old : World) (code : CodeProgram) (r : Reflected) (site : Site) (progress : Progress) → ReflectsLive code r →
    FitsLater old code (reflected_reached r site progress)
reflected_fits old code (Reflects (Answer answer) world) site progress live = tt
reflected_fits old code (Reflects (Perform receiver sel array) world) site progress (live, is, items, there, many) = λ run. (
  record {
    selector = is;
    arity = rw there many;
    live = cell_items_live world code array run.after (find_cell world.cells array) refl;
  },
  rw there refl,
)
reflected_fits old code (Refuses fault) site progress live = tt

refused_fits : (old : World) (code : CodeProgram) (outcome : RowOutcome) (selector : Value) (site : Site) (progress : Progress) →
    FitsLater old code (message_refused outcome selector site progress)
refused_fits old code (Answers answer world) selector site progress = tt
refused_fits old code (Fails fault) selector site progress = tt

data_fits :
    (old : World) (code : CodeProgram) (r : DataRow) (receiver : Value) (arguments : List Value) (site : Site) (progress : Progress) →
    FitsLater old code (data_reached code r receiver arguments site progress)
data_fits old code values.DoesNotUnderstand receiver arguments site progress =
    refused_fits old code (datum progress.world code values.DoesNotUnderstand receiver arguments) (message_selector progress.world.cells (argument arguments 0)) site progress
data_fits old code values.Identical receiver arguments site progress =
    outcome_fits old code (datum progress.world code values.Identical receiver arguments) site progress
data_fits old code values.Equal receiver arguments site progress =
    outcome_fits old code (datum progress.world code values.Equal receiver arguments) site progress
data_fits old code values.IsNil receiver arguments site progress =
    outcome_fits old code (datum progress.world code values.IsNil receiver arguments) site progress
data_fits old code values.NotNil receiver arguments site progress =
    outcome_fits old code (datum progress.world code values.NotNil receiver arguments) site progress
data_fits old code values.KernelObject receiver arguments site progress =
    outcome_fits old code (datum progress.world code values.KernelObject receiver arguments) site progress
data_fits old code values.NewObject receiver arguments site progress =
    outcome_fits old code (datum progress.world code values.NewObject receiver arguments) site progress
data_fits old code values.NewArray receiver arguments site progress =
    outcome_fits old code (datum progress.world code values.NewArray receiver arguments) site progress
data_fits old code values.NilPrint receiver arguments site progress =
    outcome_fits old code (datum progress.world code values.NilPrint receiver arguments) site progress
data_fits old code values.Not receiver arguments site progress =
    outcome_fits old code (datum progress.world code values.Not receiver arguments) site progress
data_fits old code values.BooleanPrint receiver arguments site progress =
    outcome_fits old code (datum progress.world code values.BooleanPrint receiver arguments) site progress
data_fits old code values.And receiver arguments site progress =
    outcome_fits old code (datum progress.world code values.And receiver arguments) site progress
data_fits old code values.Or receiver arguments site progress =
    outcome_fits old code (datum progress.world code values.Or receiver arguments) site progress
data_fits old code values.IntegerPrint receiver arguments site progress =
    outcome_fits old code (datum progress.world code values.IntegerPrint receiver arguments) site progress
data_fits old code values.TextSize receiver arguments site progress =
    outcome_fits old code (datum progress.world code values.TextSize receiver arguments) site progress
data_fits old code values.TextAt receiver arguments site progress =
    outcome_fits old code (datum progress.world code values.TextAt receiver arguments) site progress
data_fits old code values.TextCopy receiver arguments site progress =
    outcome_fits old code (datum progress.world code values.TextCopy receiver arguments) site progress
data_fits old code values.TextJoin receiver arguments site progress =
    outcome_fits old code (datum progress.world code values.TextJoin receiver arguments) site progress
data_fits old code values.TextEqual receiver arguments site progress =
    outcome_fits old code (datum progress.world code values.TextEqual receiver arguments) site progress
data_fits old code values.TextLess receiver arguments site progress =
    outcome_fits old code (datum progress.world code values.TextLess receiver arguments) site progress
data_fits old code values.TextPrint receiver arguments site progress =
    outcome_fits old code (datum progress.world code values.TextPrint receiver arguments) site progress
data_fits old code values.SymbolSize receiver arguments site progress =
    outcome_fits old code (datum progress.world code values.SymbolSize receiver arguments) site progress
data_fits old code values.SymbolText receiver arguments site progress =
    outcome_fits old code (datum progress.world code values.SymbolText receiver arguments) site progress
data_fits old code values.SymbolPrint receiver arguments site progress =
    outcome_fits old code (datum progress.world code values.SymbolPrint receiver arguments) site progress
data_fits old code values.SymbolLess receiver arguments site progress =
    outcome_fits old code (datum progress.world code values.SymbolLess receiver arguments) site progress
data_fits old code values.ArraySize receiver arguments site progress =
    outcome_fits old code (datum progress.world code values.ArraySize receiver arguments) site progress
data_fits old code values.ArrayAt receiver arguments site progress =
    outcome_fits old code (datum progress.world code values.ArrayAt receiver arguments) site progress
data_fits old code values.ArrayPut receiver arguments site progress =
    outcome_fits old code (datum progress.world code values.ArrayPut receiver arguments) site progress
data_fits old code values.MessageSelector receiver arguments site progress =
    outcome_fits old code (datum progress.world code values.MessageSelector receiver arguments) site progress
data_fits old code values.MessageArguments receiver arguments site progress =
    outcome_fits old code (datum progress.world code values.MessageArguments receiver arguments) site progress

facet_fits : (old : World) (code : CodeProgram) (r : FacetRow) (arguments : List Value) (site : Site) (progress : Progress) →
    FitsLater old code (facet_reached code r arguments site progress)
facet_fits old code r arguments site progress =
    outcome_fits old code (facet_outcome progress.world code r arguments progress.board) site (record progress { board = board_after r arguments progress.board })

array_fits : (code : CodeProgram) (block array : Value) (site : Site) (progress : Progress) → is_block progress.world.cells block ≡ true →
    FitsLater progress.world code (value_with_arguments block array site progress)
array_fits code block array site progress suits =
    tested (is_array progress.world.cells array) (nat_lt 255 (length (items_of progress.world.cells array)))
  where
    tested : (b c : Bool) → FitsLater progress.world code (cond b (cond c (fails WrongArity site progress) (Evaluate block (items_of progress.world.cells array) site progress)) (fails WrongKind site progress))
    tested true true = tt
    tested true false = λ run. block_lasts block code progress.world progress.world run suits
    tested false c = tt

-- a method begins within its counts
begins_within : (named : KMethod) (receiver first second : Value) (code : CodeProgram) (old new : World) → RunsOn code old new →
    belongs_to old.cells receiver named ≡ true →
    counts_fit new.cells (beginning receiver first second (pos (turns_of old.cells named receiver))) named ≡ true
begins_within method.Do receiver first second code old new run suits =
    let many = length (items_of old.cells receiver) in
    same_within (pos many) (pos 0) many (length (items_of new.cells receiver)) (array_size_lasts receiver code old new run suits) (first_within many)
begins_within method.And receiver first second code old new run suits = refl
begins_within method.Or receiver first second code old new run suits = refl
begins_within method.IfTrue receiver first second code old new run suits = refl
begins_within method.IfFalse receiver first second code old new run suits = refl
begins_within method.IfTrueIfFalse receiver first second code old new run suits = refl
begins_within method.IfFalseIfTrue receiver first second code old new run suits = refl
begins_within method.WhileTrue receiver first second code old new run suits = refl
begins_within method.WhileFalse receiver first second code old new run suits = refl
begins_within method.ToDo receiver first second code old new run suits = refl
begins_within method.TimesRepeat receiver first second code old new run suits = refl

begun_fits : (code : CodeProgram) (method : KMethod) (receiver first second : Value) (site : Site) (progress : Progress) →
    belongs_to progress.world.cells receiver method ≡ true →
    FitsLater progress.world code (method_begun method receiver first second site progress)
begun_fits code method receiver first second site progress suits = tested (has_arguments progress.world.cells method first second) refl
  where
    go : Progress → Control
    go = Begin method (beginning receiver first second (pos (turns_of progress.world.cells method receiver))) site

    tested : (b : Bool) → has_arguments progress.world.cells method first second ≡ b → FitsLater progress.world code (cond b (charged halts Depth (entered progress.world) progress go) (fails WrongKind site progress))
    tested true t = charged_all (FitsLater progress.world code) halts Depth (entered progress.world) progress go tt (λ world e. λ run. record { arguments = arguments_last method first second code progress.world world run t; receiver = belonging_lasts method receiver code progress.world world run suits; counts = begins_within method receiver first second code progress.world world run suits })
    tested false t = tt

row_fits : (code : CodeProgram) (r : Row) (sel : Sel) (receiver : Value) (arguments : List Value) (site : Site) (progress : Progress) →
    LawfulRun code progress → All (IsLiveValue progress.world.cells code) arguments → RowSuits progress.world.cells receiver r
    → FitsLater progress.world code (row_reached code r sel receiver arguments site progress)
row_fits code (row.Data d) sel receiver arguments site progress lawful all suits =
    data_fits progress.world code d receiver arguments site progress
row_fits code (row.Integer i) sel receiver arguments site progress lawful all suits =
    answer_fits progress.world code (integer i (number_of receiver) (argument arguments 0)) site progress
row_fits code row.Top sel receiver arguments site progress lawful all suits =
    facet_fits progress.world code (facet.Top sel) arguments site progress
row_fits code (row.Facet f) sel receiver arguments site progress lawful all suits = facet_fits progress.world code f arguments site progress
row_fits code (row.Mirror m) sel receiver arguments site progress lawful all suits =
    let shown = mirrored progress.world.cells (cell_number receiver) in
    let one = get_live (IsLiveValue progress.world.cells code) arguments 0 all (tt, refl) in
    let two = get_live (IsLiveValue progress.world.cells code) arguments 1 all (tt, refl) in
    reflected_fits progress.world code (mirror progress.world code m (cell_number receiver) arguments) site progress
    (mirrors_live progress.world code m shown (argument arguments 0) (argument arguments 1) lawful (mirrored_live progress.world code (cell_number receiver) lawful) one two)
row_fits code (row.Method m) sel receiver arguments site progress lawful all suits =
    begun_fits code m receiver (argument arguments 0) (argument arguments 1) site progress suits
row_fits code row.Apply sel receiver arguments site progress lawful all suits = tt
row_fits code row.Value sel receiver arguments site progress lawful all suits =
    λ run. block_lasts receiver code progress.world progress.world run suits
row_fits code row.ValueWithArguments sel receiver arguments site progress lawful all suits =
    array_fits code receiver (argument arguments 0) site progress suits
row_fits code row.NumArgs sel receiver arguments site progress lawful all suits = tt

-- ---- bodies

-- a body that begins keeps self, holder and body, and has all of its locals
pub opened_fits :
    (own : ℕ) (old : World) (code : CodeProgram) (go : Activation → List Value → Progress → Control) (activation : Activation) (arguments : List Value) (progress : Progress) →
    IsLater old progress.world
    → ((env : Value) (locals : List Value) (world : World) → IsLater progress.world world → IsOpened world.cells code activation.body activation.env arguments env locals → ShownLater own old code (go (record activation { env = env }) locals (in_world progress world)))
    → ShownLater own old code (opened code halts go activation arguments progress)
opened_fits own old code go activation arguments progress later goes = tested (has_environment code activation.body) refl
  where
    locals : List Value
    locals = first_locals code activation.body arguments

    inner : Activation
    inner = record activation { env = value.Ref (heap_size progress.world.cells) }

    cell : Cell
    cell = EnvironmentCell activation.env locals

    tested : (b : Bool) → has_environment code activation.body ≡ b → ShownLater own old code (cond b (charged halts Cells (made progress.world cell) progress (go inner [])) (go activation locals progress))
    tested true b = charged_all (ShownLater own old code) halts Cells (made progress.world cell) progress (go inner []) tt
        (λ world e. goes (value.Ref (heap_size progress.world.cells)) [] world (later_made progress.world world cell (may_come progress.world.cells cell refl refl) e)
        (opened_over code progress.world world activation.body activation.env arguments b e))
    tested false b = goes activation.env locals progress.world (later_same progress.world) (opened_bare progress.world.cells code activation.body activation.env arguments b)

-- a body that runs lasts
runs_last : (code : CodeProgram) (old new : World) (activation : Activation) (kind params : ℕ) →
    BodyRuns old.cells code activation.self activation.holder activation.body kind params → RunsOn code old new →
    FitsActivation new.cells code activation
runs_last code old new activation kind params runs run =
    activation_lasts activation code old new run (record { live = runs.live; there = runs.there; fits = runs.fits })

-- so it fits where it is entered
pub entered_here :
    (own : ℕ) (code : CodeProgram) (world : World) (exit : Exit) (activation : Activation) (around : Value) (arguments locals : List Value) (kind params : ℕ) →
    BodyRuns world.cells code activation.self activation.holder activation.body kind params
    → length arguments ≡ params → IsOpened world.cells code activation.body around arguments activation.env locals → (StandsWell code activation.body → FitsAround world.cells code activation.body around)
    → (kind ≡ initialiser_kind → HasHolder world.cells activation.self activation.holder)
    → FitsExit world.cells code exit → ends_kind own exit kind ≡ true → EndsOwn code exit activation → FitsEntered world.cells code activation locals × FitsEnd own world.cells code exit activation
entered_here own code world exit activation around arguments locals kind params runs count opens outer object met ends ends_own =
    let many : length arguments ≡ parameters_of code activation.body = count ∙ sym runs.params_are in
    let next : suc activation.body ≡ activation.body + 1 = omega arith in
    let env = environment_body code activation.body in (
      record {
        fits = record { live = runs.live; there = runs.there; fits = runs.fits };
        object = λ is. object (sym runs.kind_is ∙ is);
        beside = λ stands. opens.beside many stands;
        environment = λ stands. subst (λ depth. FitsEnvironment depth world.cells code env activation.env) next (opens.environment many stands (outer stands));
      },
      record { met = met; kind = ap (ends_kind own exit) runs.kind_is ∙ ends; own = ends_own },
    )

-- a body that runs lasts
pub body_lasts : (code : CodeProgram) (old new : World) (activation : Activation) (kind params : ℕ) →
    BodyRuns old.cells code activation.self activation.holder activation.body kind params → RunsOn code old new
    → BodyRuns new.cells code activation.self activation.holder activation.body kind params
body_lasts code old new activation kind params runs run =
    let fits = runs_last code old new activation kind params runs run in
    record { live = fits.live; there = fits.there; fits = fits.fits; kind_is = runs.kind_is; params_are = runs.params_are }

-- how many arguments are given
abbrev pub count_of : Arguments → ℕ
count_of (Listed values) = length values
count_of (Wrapped sel values) = 1

given_fits : (old : World) (code : CodeProgram) (arguments : Arguments) (progress : Progress) (go : List Value → Progress → Control)
    → ((values : List Value) (world : World) → IsLater progress.world world → length values ≡ count_of arguments → FitsLater old code (go values (in_world progress world))) → FitsLater old code (given arguments progress go)
given_fits old code (Listed values) progress go goes = goes values progress.world (later_same progress.world) refl
given_fits old code (Wrapped sel values) progress go goes =
    charged_all (FitsLater old code) halts Cells (made progress.world (ArrayCell values)) progress _ tt
    (λ world e. let message : Cell = MessageCell sel (value.Ref (heap_size progress.world.cells)) in
    let one = later_made progress.world world (ArrayCell values) (may_come progress.world.cells (ArrayCell values) refl refl) e in
    charged_all (FitsLater old code) halts Cells (made world message) (in_world progress world) _ tt
    (λ next m. goes _ next (later_on progress.world world next one (later_made world next message (may_come world.cells message refl refl) m)) refl))

method_fits : (code : CodeProgram) (body holder params : ℕ) (receiver : Value) (arguments : Arguments) (site : Site) (progress : Progress) →
    BodyRuns progress.world.cells code receiver holder body method_kind params → count_of arguments ≡ params
    → FitsLater progress.world code (method_entered code body holder receiver arguments site progress)
method_fits code body holder params receiver arguments site progress runs count =
    charged_all (FitsLater progress.world code) halts Depth (entered progress.world) progress _ tt
    (λ world e. given_fits progress.world code arguments (in_world progress world) _
    (λ values next same many.
    opened_fits initialiser_kind progress.world code (λ activation locals progress. Enter FromMethod activation locals (one_more progress))
    (record { self = receiver; holder = holder; body = body; home = progress.begun; env = value.Nil; site = site }) values (in_world progress next)
    (later_on progress.world world next (later_entered progress.world world e) same)
    (λ env locals last more all. λ run.
    let running : Activation = record { self = receiver; holder = holder; body = body; home = progress.begun; env = env; site = site } in
    let here = body_lasts code progress.world last running method_kind params runs run in
    entered_here initialiser_kind code last FromMethod running value.Nil values locals method_kind params here (many ∙ count) all
    (nothing_around last.cells code body method_kind runs.kind_is (λ e. let q : 0 ≡ 1 = e in omega (arith, q)))
    (λ e. let q : 0 ≡ 2 = e in absurd (omega (arith, q))) tt refl tt)))

-- the declaration of a class is one of the code
pub class_there : (world : World) (code : CodeProgram) (class : ℕ) → IsLawful world code → is_class (find_cell world.cells class) ≡ true →
    IsSome (slice_get code.classes (declaration_of world.cells class))
class_there world code class lawful is = found (find_cell world.cells class) refl is
  where
    found : (o : Option Cell) → find_cell world.cells class ≡ o → is_class o ≡ true → IsSome (slice_get code.classes (declaration_of world.cells class))
    found (Some (ClassCell decl base encl holder over)) e is = rw e (lawful.cells class (ClassCell decl base encl holder over) e).declared
    found None e is = absurd (cc)
    found (Some (ObjectCell class' entries)) e is = absurd (cc)
    found (Some (BlockCell body env home receiver holder)) e is = absurd (cc)
    found (Some (EnvironmentCell parent locals)) e is = absurd (cc)
    found (Some (ArrayCell items)) e is = absurd (cc)
    found (Some (TextCell bytes)) e is = absurd (cc)
    found (Some (FacetCell kind)) e is = absurd (cc)
    found (Some (MirrorCell mirrored)) e is = absurd (cc)
    found (Some (MessageCell sel args)) e is = absurd (cc)

-- an object that was just made has its class
made_has : (code : CodeProgram) (old mid new : World) (class number : ℕ) (entries : List Value) →
    is_class (find_cell old.cells class) ≡ true → IsLater mid new → RunsOn code old new →
    find_cell mid.cells number ≡ Some (ObjectCell class entries)
    → HasHolder new.cells (value.Ref number) class
made_has code old mid new class number entries is after run there =
    let chain : chain_of new.cells class ≡ class ∷ chain_of new.cells (superclass_of new.cells class) = (goes_on new.cells class run.after.ordered (omega (arith, lawful_small new code run.after)) is').chain in
    (λ other e. let both : Some class ≡ Some other = sym object ∙ e in let same : class ≡ other = cc in subst (λ c. Contains (chain_of new.cells c) class) same (0, omega (arith, ap length chain), ap (λ ms. get_or ms 0 class) chain), rw object refl)
  where
    is' : is_class (find_cell new.cells class) ≡ true
    is' = ap is_class (class_same old.cells new.cells class run.later.cells is) ∙ is

    object : class_of_object (find_cell new.cells number) ≡ Some class
    object = let s = after.cells.cells number (ObjectCell class entries) there in ap class_of_object s.there ∙ (twins_of_shape (ObjectCell class entries) s.now s.shape).object

-- it runs the initialiser of its class
new_runs : (code : CodeProgram) (old mid new : World) (class number params : ℕ) (entries : List Value) →
    IsInitialiserOf old.cells code class params → is_class (find_cell old.cells class) ≡ true → IsLater old mid → IsLater mid new →
    RunsOn code old new → find_cell mid.cells number ≡ Some (ObjectCell class entries)
    → BodyRuns new.cells code (value.Ref number) class (initialiser_of code (declaration_of old.cells class)) initialiser_kind params
new_runs code old mid new class number params entries begins is before after run there =
    subst (λ n. BodyRuns new.cells code (value.Ref number) class n initialiser_kind params) (sym (ap (λ o. option_map_or (λ (c : ClassCode). c.init) o 0) begins.class_is))
    (body_runs new.cells code (value.Ref number) class begins.declared.init initialiser_kind instance_side (declaration_of old.cells class) params begins.body (object_live new.cells code number has.1)
    (instance_fits new.cells code number class begins.body.body is' (begins.body.class_is ∙ sym decl) begins.body.side_is has))
  where
    is' : is_class (find_cell new.cells class) ≡ true
    is' = ap is_class (class_same old.cells new.cells class run.later.cells is) ∙ is

    decl : declaration_of new.cells class ≡ declaration_of old.cells class
    decl = declaration_lasts class code old new run is

    has : HasHolder new.cells (value.Ref number) class
    has = made_has code old mid new class number entries is after run there

instance_enters : (code : CodeProgram) (old : World) (class params : ℕ) (arguments : List Value) (site : Site) (progress : Progress) →
    IsInitialiserOf old.cells code class params → length arguments ≡ params → is_class (find_cell old.cells class) ≡ true →
    IsLater old progress.world → FitsLater old code (instance code class arguments site progress)
instance_enters code old class params arguments site progress begins count is later =
    charged_all (FitsLater old code) halts Cells (made progress.world object) progress (opened code halts (Enter FromBody) inner arguments) tt
    (λ world e.
    let one = later_made progress.world world object (may_come progress.world.cells object refl refl) e in
    let so_far = later_on old progress.world world later one in
    opened_fits initialiser_kind old code (Enter FromBody) inner arguments (in_world progress world) so_far
    (λ env locals last more all. λ run.
    let fresh = heap_size progress.world.cells in
    let here = new_runs code old world last class fresh params (replicate (layout_of progress.world.cells code class) value.Nil) begins is so_far more run (new_found progress.world world object e) in
    let same = sym (declaration_stays old.cells progress.world.cells class (class_same old.cells progress.world.cells class later.cells is)) in
    let here' : BodyRuns last.cells code (value.Ref fresh) class (initialiser_of code (declaration_of progress.world.cells class)) initialiser_kind params =
    subst (λ n. BodyRuns last.cells code (value.Ref fresh) class (initialiser_of code n) initialiser_kind params) same here in
    entered_here initialiser_kind code last FromBody (record inner { env = env }) value.Nil arguments locals initialiser_kind params here' count all
    (nothing_around last.cells code inner.body initialiser_kind here'.kind_is (λ e. let q : 2 ≡ 1 = e in omega (arith, q)))
    (λ is_one. made_has code old world last class fresh (replicate (layout_of progress.world.cells code class) value.Nil) is more run (new_found progress.world world object e)) tt refl tt))
  where
    object : Cell
    object = ObjectCell class (replicate (layout_of progress.world.cells code class) value.Nil)

    inner : Activation
    inner = record { self = value.Ref (heap_size progress.world.cells); holder = class; body = initialiser_of code (declaration_of progress.world.cells class); home = no_home; env = value.Nil; site = site }

factory_fits : (code : CodeProgram) (class params : ℕ) (arguments : Arguments) (site : Site) (progress : Progress) →
    IsInitialiserOf progress.world.cells code class params → count_of arguments ≡ params →
    is_class (find_cell progress.world.cells class) ≡ true →
    FitsLater progress.world code (factory_entered code class arguments site progress)
factory_fits code class params arguments site progress begins count is =
    charged_all (FitsLater progress.world code) halts Depth (entered progress.world) progress _ tt
    (λ world e. given_fits progress.world code arguments (in_world progress world) (λ values progress. instance code class values site progress)
    (λ values next same many. instance_enters code progress.world class params values site (in_world progress next) begins (many ∙ count) is (later_on progress.world world next (later_entered progress.world world e) same)))

set_fits : (code : CodeProgram) (word : ℕ) (receiver : Value) (arguments : Arguments) (progress : Progress) →
    FitsLater progress.world code (set word receiver arguments progress)
set_fits code word receiver arguments progress = given_fits progress.world code arguments progress _ (λ values world same many. tt)

-- the clause of a nested class runs with the object that keeps it
clause_runs : (world : World) (code : CodeProgram) (object holder class clause : ℕ) → IsLawful world code →
    HasClass world.cells code object holder class → clause_of code class ≡ Some clause →
    BodyRuns world.cells code (value.Ref object) holder clause clause_kind 0
clause_runs world code object holder class clause lawful has e =
    let n = has.nested in
    let inner = nested_inner code (declaration_of world.cells holder) n.place n.class n.nested lawful.classes n.class_is n.nested_is in
    let there : slice_get code.classes class ≡ Some inner.inner = ap (slice_get code.classes) (sym n.decl_is) ∙ inner.inner_is in
    let c : inner.inner.clause ≡ Some clause = sym (ap (λ o. option_map_or (λ (d : ClassCode). d.clause) o None) there) ∙ e in
    let body = clause_there code class clause inner.inner lawful.classes there c in
    let outer : unwrap_or inner.inner.outer class ≡ declaration_of world.cells holder = ap (λ o. unwrap_or o class) inner.outer_is in
    body_runs world.cells code (value.Ref object) holder clause clause_kind instance_side (unwrap_or inner.inner.outer class) 0 body (object_live world.cells code object has.object_has.1)
    (instance_fits world.cells code object holder body.body has.holder_is (body.class_is ∙ outer) body.side_is has.object_has)

head_fits : (code : CodeProgram) (object holder class : ℕ) (clause : Option ℕ) (site : Site) (progress : Progress) →
    LawfulRun code progress → HasClass progress.world.cells code object holder class → clause_of code class ≡ clause
    → FitsLater progress.world code (head code object holder class clause site progress)
head_fits code object holder class None site progress lawful has e = tt
head_fits code object holder class (Some clause) site progress lawful has c =
    charged_all (FitsLater progress.world code) halts Depth (entered progress.world) progress (opened code halts (Enter (FromClause object holder class)) inner []) tt
    (λ world e. opened_fits initialiser_kind progress.world code (Enter (FromClause object holder class)) inner [] (in_world progress world) (later_entered progress.world world e)
    (λ env locals last more all. λ run.
    let runs = clause_runs progress.world code object holder class clause lawful has c in
    let here = body_lasts code progress.world last (record inner { env = env }) clause_kind 0 runs run in
    entered_here initialiser_kind code last (FromClause object holder class) (record inner { env = env }) value.Nil [] locals clause_kind 0 here refl all
    (nothing_around last.cells code clause clause_kind runs.kind_is (λ e. let q : 3 ≡ 1 = e in omega (arith, q)))
    (λ e. let q : 3 ≡ 2 = e in absurd (omega (arith, q)))
    (exit_lasts (FromClause object holder class) code progress.world last run has) refl (refl, refl, c)))
  where
    inner : Activation
    inner = record { self = value.Ref object; holder = holder; body = clause; home = no_home; env = value.Nil; site = site }

nested_fits : (code : CodeProgram) (receiver : Value) (holder class : ℕ) (site : Site) (progress : Progress) → LawfulRun code progress →
    HasHolder progress.world.cells receiver holder → is_class (find_cell progress.world.cells holder) ≡ true →
    HasNested progress.world.cells code holder class
    → FitsLater progress.world code (nested_in code receiver holder class site progress)
nested_fits code (value.Ref object) holder class site progress lawful has is nests =
    kept (kept_class progress.world.cells code object holder class)
  where
    kept : (o : Option ℕ) → FitsLater progress.world code (nested code object holder class o site progress)
    kept (Some number) = tt
    kept None = head_fits code object holder class (clause_of code class) site progress lawful (record { object_has = has; holder_is = is; nested = nests }) refl
nested_fits code value.Nil holder class site progress lawful has is nests = tt
nested_fits code value.True holder class site progress lawful has is nests = tt
nested_fits code value.False holder class site progress lawful has is nests = tt
nested_fits code (value.Int number) holder class site progress lawful has is nests = tt
nested_fits code (value.Sym sel) holder class site progress lawful has is nests = tt
nested_fits code (value.Kernel kernel) holder class site progress lawful has is nests = tt

-- ---- members

listed_fits :
    (code : CodeProgram) (member : Found) (sel : Sel) (receiver : Value) (values : List Value) (site : Site) (progress : Progress) →
    LawfulRun code progress → IsLiveValue progress.world.cells code receiver → FitsSelector progress.world.cells code sel values
    → Suits progress.world.cells code receiver member → Runs progress.world.cells code receiver sel.0 member → FoundSuits progress.world.cells receiver member → FitsLater progress.world code (done_with code member sel receiver (Listed values) site progress)
listed_fits code (found.Method body holder) sel receiver values site progress lawful live fits suits runs rows =
    method_fits code body holder (selector_arity code sel.0) receiver (Listed values) site progress runs fits.arity
listed_fits code (found.Getter holder word) sel receiver values site progress lawful live fits suits runs rows = tt
listed_fits code (found.Setter holder word) sel receiver values site progress lawful live fits suits runs rows =
    set_fits code word receiver (Listed values) progress
listed_fits code (found.Nested class holder) sel receiver values site progress lawful live fits suits runs rows =
    nested_fits code receiver holder class site progress lawful suits.0 suits.1 suits.2
listed_fits code (found.Factory class) sel receiver values site progress lawful live fits suits runs rows =
    factory_fits code class (selector_arity code sel.0) (Listed values) site progress runs fits.arity suits
listed_fits code (found.Kernel number) sel receiver values site progress lawful live fits suits runs rows =
    row_fits code (row_at number) sel receiver values site progress lawful fits.live rows
listed_fits code found.NotPublic sel receiver values site progress lawful live fits suits runs rows = tt
listed_fits code found.Absent sel receiver values site progress lawful live fits suits runs rows = tt

absent_fits :
    (code : CodeProgram) (member : Found) (sel : Sel) (receiver : Value) (values : List Value) (site : Site) (progress : Progress) →
    LawfulRun code progress → Suits progress.world.cells code receiver member →
    Runs progress.world.cells code receiver (own_number code DoesNotUnderstand) member
    → FitsLater progress.world code (not_found code member sel receiver values site progress)
absent_fits code (found.Method body holder) sel receiver values site progress lawful suits runs =
    method_fits code body holder (selector_arity code (own_number code DoesNotUnderstand)) receiver (Wrapped sel values) site progress runs (sym (one_message code))
absent_fits code (found.Getter holder word) sel receiver values site progress lawful suits runs = tt
absent_fits code (found.Setter holder word) sel receiver values site progress lawful suits runs =
    set_fits code word receiver (Wrapped sel values) progress
absent_fits code (found.Nested class holder) sel receiver values site progress lawful suits runs =
    nested_fits code receiver holder class site progress lawful suits.0 suits.1 suits.2
absent_fits code (found.Factory class) sel receiver values site progress lawful suits runs =
    factory_fits code class (selector_arity code (own_number code DoesNotUnderstand)) (Wrapped sel values) site progress runs (sym (one_message code)) suits
absent_fits code (found.Kernel number) sel receiver values site progress lawful suits runs = tt
absent_fits code found.NotPublic sel receiver values site progress lawful suits runs = tt
absent_fits code found.Absent sel receiver values site progress lawful suits runs = tt

answered_fits :
    (code : CodeProgram) (member : Found) (sel : Sel) (receiver : Value) (values : List Value) (site : Site) (progress : Progress) →
    LawfulRun code progress → IsLiveValue progress.world.cells code receiver → FitsSelector progress.world.cells code sel values
    → Suits progress.world.cells code receiver member → Runs progress.world.cells code receiver sel.0 member → FoundSuits progress.world.cells receiver member → FitsLater progress.world code (answered_by code member sel receiver values site progress)
answered_fits code found.Absent sel receiver values site progress lawful live fits suits runs rows =
    absent_fits code (found_from progress.world.cells code (start_of progress.world.cells receiver) (own_number code DoesNotUnderstand) Inner) sel receiver values site progress lawful
    (found_suits progress.world code receiver (own_number code DoesNotUnderstand) Inner lawful) (found_runs progress.world code receiver (own_number code DoesNotUnderstand) Inner lawful live)
answered_fits code (found.Method body holder) sel receiver values site progress lawful live fits suits runs rows =
    listed_fits code (found.Method body holder) sel receiver values site progress lawful live fits suits runs rows
answered_fits code (found.Getter holder word) sel receiver values site progress lawful live fits suits runs rows =
    listed_fits code (found.Getter holder word) sel receiver values site progress lawful live fits suits runs rows
answered_fits code (found.Setter holder word) sel receiver values site progress lawful live fits suits runs rows =
    listed_fits code (found.Setter holder word) sel receiver values site progress lawful live fits suits runs rows
answered_fits code (found.Nested class holder) sel receiver values site progress lawful live fits suits runs rows =
    listed_fits code (found.Nested class holder) sel receiver values site progress lawful live fits suits runs rows
answered_fits code (found.Factory class) sel receiver values site progress lawful live fits suits runs rows =
    listed_fits code (found.Factory class) sel receiver values site progress lawful live fits suits runs rows
answered_fits code (found.Kernel number) sel receiver values site progress lawful live fits suits runs rows =
    listed_fits code (found.Kernel number) sel receiver values site progress lawful live fits suits runs rows
answered_fits code found.NotPublic sel receiver values site progress lawful live fits suits runs rows =
    listed_fits code found.NotPublic sel receiver values site progress lawful live fits suits runs rows

-- ---- plain sends

-- what holds later holds of a run that goes on lawfully
pub fits_now : (own : ℕ) (old : World) (code : CodeProgram) (control : Control) → IsLawful old code → IsLater old (reached control).world →
    LawfulControl code control → ShownLater own old code control → FitsNext own code control
fits_now own old code (Now after) before later lawful fits = tt
fits_now own old code (Enter exit activation locals progress) before later lawful fits =
    fits (record { before = before; after = lawful.0; later = later })
fits_now own old code (Evaluate block arguments site progress) before later lawful fits =
    fits (record { before = before; after = lawful.0; later = later })
fits_now own old code (Begin method state site progress) before later lawful fits =
    fits (record { before = before; after = lawful.0; later = later })
fits_now own old code (WaitsToPerform receiver sel array site progress) before later lawful fits =
    fits (record { before = before; after = lawful.0; later = later })

pub stepped_fits :
    (code : CodeProgram) (member : Found) (sel : Sel) (receiver : Value) (values : List Value) (site : Site) (progress : Progress) →
    LawfulRun code progress → IsLiveValue progress.world.cells code receiver → FitsSelector progress.world.cells code sel values
    → Suits progress.world.cells code receiver member → Runs progress.world.cells code receiver sel.0 member → FoundSuits progress.world.cells receiver member → FitsNext initialiser_kind code (charged halts Steps (stepped progress.world) progress (answered_by code member sel receiver values site))
stepped_fits code member sel receiver values site progress lawful live fits suits runs rows =
    charged_all (FitsNext initialiser_kind code) halts Steps (stepped progress.world) progress (answered_by code member sel receiver values site) tt
    (λ world e.
    let same = step_cells progress.world world e in
    let after = step_keeps progress.world world code lawful e in
    let live' : IsLiveValue world.cells code receiver = subst (λ cells. IsLiveValue cells code receiver) (sym same) live in
    let fits' : FitsSelector world.cells code sel values = subst (λ cells. FitsSelector cells code sel values) (sym same) fits in
    let suits' : Suits world.cells code receiver member = subst (λ cells. Suits cells code receiver member) (sym same) suits in
    let runs' : Runs world.cells code receiver sel.0 member = subst (λ cells. Runs cells code receiver sel.0 member) (sym same) runs in
    let rows' : FoundSuits world.cells receiver member = subst (λ cells. FoundSuits cells receiver member) (sym same) rows in
    let next : Progress = in_world progress world in
    fits_now initialiser_kind world code (answered_by code member sel receiver values site next) after
    (answered_onward (touched world.cells receiver) code member sel receiver values site next (0, omega arith, refl) (1, omega arith, refl)).world.later
    (answered_lawful code member sel receiver values site next after live' fits' suits')
    (answered_fits code member sel receiver values site next after live' fits' suits' runs' rows'))
