-- Actions read of a code its names, the records of its classes and the heads of its bodies alone.
use Rattle.std.proofs.Common.{◌≡◌, ℕ, zero, suc, ◌-◌, List, [], ◌∷◌, ◌++◌, length, replicate, map, refl, sym, subst, ap, ap₂, ◌∙◌}
use Rattle.std.specs.Prelude.{true, false, cond, ◌==◌, Option, Some, None, slice_get, slice_set, codes}
use Rattle.std.specs.Option.{option_map_or}
use Rattle.std.specs.List.{slice_index_or}
use Rattle.ns_base.specs.declared.place.Place.{Place as SourcePlace}
use Rattle.ns_base.specs.declared.selector.Sel.{Sel}
use Rattle.ns_code.specs.declared.program.CodeProgram.{CodeProgram}
use Rattle.ns_code.specs.declared.body.BodyCode.{BodyCode}
use Rattle.ns_code.specs.Selector.{own_number, selector_text}
use Rattle.ns_code.specs.declared.own.Own.TheVariants.{DoesNotUnderstand}
use Rattle.ns_code.specs.Soundness.{class_side}
use Rattle.ns_world.specs.declared.value.Value.{Value}
use Rattle.ns_world.specs.declared.value.Value.TheVariants as value
use Rattle.ns_world.specs.declared.value.KClass.TheVariants.{Object}
use Rattle.ns_world.specs.declared.cell.NewCell.{NewCell}
use Rattle.ns_world.specs.declared.cell.NewCell.TheVariants as new
use Rattle.ns_world.specs.declared.ending.Ending.{Ending}
use Rattle.ns_world.specs.declared.ending.Ending.TheVariants as ending
use Rattle.ns_world.specs.declared.ending.Kind.TheVariants.{WrongArity, InitMismatch}
use Rattle.ns_world.specs.declared.ending.LimitKind.{LimitKind}
use Rattle.ns_world.specs.declared.ending.LimitKind.TheVariants.{Steps, Depth, Cells}
use Rattle.ns_world.specs.Cell.{Cell, ObjectCell, ClassCell, BlockCell, EnvironmentCell, ArrayCell, TextCell, FacetCell, MirrorCell, MessageCell}
use Rattle.ns_world.specs.Heap.{Heap, heap_size, find_cell, superclass_in, word_at, cell_number}
use Rattle.ns_world.specs.Layout.{declaration_of, layout_of}
use Rattle.ns_world.specs.Starts.{start_of, class_name_of}
use Rattle.ns_world.specs.World.{World, made, stepped, entered, left, written, stored}
use Rattle.ns_classes.specs.declared.apply.MakeFault.{MakeFault}
use Rattle.ns_classes.specs.Apply.{class_fault, class_cell}
use Rattle.ns_classes.specs.Nested.{kept_class, nested_entry}
use Rattle.ns_find.specs.declared.found.Found.{Found}
use Rattle.ns_find.specs.declared.found.Found.TheVariants as found
use Rattle.ns_find.specs.declared.found.Sending.TheVariants.{Plain, Inner}
use Rattle.ns_find.specs.Find.{side_of, found_from, found_private, super_start}
use Rattle.ns_kdata.specs.Arguments.{shape_of_value, items_of}
use Rattle.ns_mirror.specs.Naming.{class_text}
use Rattle.ns_moves.specs.declared.site.Site.{Site}
use Rattle.ns_moves.specs.Site.{error}
use Rattle.ns_moves.specs.Control.{Progress, in_world, Activation, Exit, FromMethod, FromBody, FromClause, After, Gives, Halts}
use Rattle.ns_moves.specs.Control.{Control, Now, Enter, Stop, EnterPart, halts, fails, charged}
use Rattle.ns_moves.specs.Bodies.{parameters_of, locals_of, has_environment, side_of_body, initialiser_of, clause_of, no_home, first_locals, opened}
use Rattle.ns_moves.specs.Bodies.{enclosing, side_at, environment_out, is_beside, environment_at, local_at, locals_with, local_stored}
use Rattle.ns_moves.specs.Classes.{class_made, keeping, newly_kept, kept_or, class_over, head, nested, instance, factory_selector, super_selector}
use Rattle.ns_moves.specs.Classes.{declared_part, part_of, super_part, slot_filled, body_ended}
use Rattle.ns_moves.specs.Blocks.{block_entered}
use Rattle.ns_world.specs.KernelTable.{row_at}
use Rattle.ns_moves.specs.Sends.{Target, To, ToPrivate, ToSuper, receiver_of, found_at, site_at, Arguments, Listed, Wrapped, given, one_more}
use Rattle.ns_moves.specs.Sends.{method_entered, factory_entered, nested_in, done_with, message_sel, not_found, answered_by, sent, sent_from}
use Rattle.ns_moves.specs.Sends.{sent_plain}
use Rattle.ns_moves.specs.Report.{cell_text, value_text, place_text, kind_text, report_line}
use Rattle.ns_model.specs.Tables.{SameTables, ActAlike}
use Rattle.ns_code.specs.Heads.{head_of}
use Rattle.ns_model.proofs.Lookups.{recoded, above_same, layout_same, word_same, kept_same, found_same, private_same}
use Rattle.ns_model.proofs.RowsRead.{class_same, row_same}

-- ---- charges, and what goes on from them

charged_on : {A : Type 0} (stop : Ending → Progress → A) (limit : LimitKind) (o : Option World) (progress : Progress) (go other : Progress → A)
    → ((next : Progress) → go next ≡ other next) → charged stop limit o progress go ≡ charged stop limit o progress other
charged_on stop limit (Some world) progress go other same = same (in_world progress world)
charged_on stop limit None progress go other same = refl

given_on : (arguments : Arguments) (progress : Progress) (go other : List Value → Progress → Control)
    → ((values : List Value) (next : Progress) → go values next ≡ other values next) → given arguments progress go ≡ given arguments progress other
given_on (Listed values) progress go other same = same values progress
given_on (Wrapped sel values) progress go other same =
    charged_on halts Cells (made progress.world (ArrayCell values)) progress _ _ λ next.
    charged_on halts Cells (made next.world (MessageCell sel (value.Ref (heap_size progress.world.cells)))) next _ _
    (same (value.Ref (heap_size next.world.cells) ∷ []))

made_on : (cell : Cell) (fault : Option MakeFault) (site : Site) (progress : Progress) (go other : ℕ → Progress → After)
    → ((number : ℕ) (next : Progress) → go number next ≡ other number next) → class_made cell fault site progress go ≡ class_made cell fault site progress other
made_on cell (Some fault) site progress go other same = refl
made_on cell None site progress go other same =
    charged_on Halts Cells (made progress.world cell) progress _ _ (same (heap_size progress.world.cells))

-- ---- heads of bodies

-- what a body's head tells is the same of the body
told : {A : Type 0} (f : BodyCode → A) (default : A) (bodies : List BodyCode) (number : ℕ) → ((body : BodyCode) → f (head_of body) ≡ f body)
    → option_map_or f (slice_get (map head_of bodies) number) default ≡ option_map_or f (slice_get bodies number) default
told f default [] number same = refl
told f default (body ∷ bodies) zero same = same body
told f default (body ∷ bodies) (suc number) same = told f default bodies number same

-- and the same of bodies with the same heads
of_heads : {A : Type 0} (f : BodyCode → A) (default : A) (some others : List BodyCode) (number : ℕ) →
    ((body : BodyCode) → f (head_of body) ≡ f body)
    → map head_of others ≡ map head_of some → option_map_or f (slice_get some number) default ≡ option_map_or f (slice_get others number) default
of_heads f default some others number same heads =
    sym (told f default some number same)
    ∙ (ap (λ bodies. option_map_or f (slice_get bodies number) default) (sym heads) ∙ told f default others number same)

module _ (code : CodeProgram) (texts : List (List ℕ)) (bodies : List BodyCode) (heads : map head_of bodies ≡ map head_of code.bodies) where
  abbrev other : CodeProgram
  other = recoded code texts bodies

  params_same : (body : ℕ) → parameters_of code body ≡ parameters_of other body
  params_same body = of_heads (λ (b : BodyCode). b.params) 0 code.bodies bodies body (λ b. refl) heads

  locals_same : (body : ℕ) → locals_of code body ≡ locals_of other body
  locals_same body = of_heads (λ (b : BodyCode). b.locals) 0 code.bodies bodies body (λ b. refl) heads

  environment_same : (body : ℕ) → has_environment code body ≡ has_environment other body
  environment_same body = of_heads (λ (b : BodyCode). b.environment) false code.bodies bodies body (λ b. refl) heads

  side_same : (body : ℕ) → side_of_body code body ≡ side_of_body other body
  side_same body = ap side_of (of_heads (λ (b : BodyCode). b.side == class_side) false code.bodies bodies body (λ b. refl) heads)

  -- ---- bodies and locals

  first_same : (body : ℕ) (arguments : List Value) → first_locals code body arguments ≡ first_locals other body arguments
  first_same body arguments = ap₂ (λ all some. arguments ++ replicate (all - some) value.Nil) (locals_same body) (params_same body)

  opened_same : {A : Type 0} (stop : Ending → Progress → A) (go : Activation → List Value → Progress → A) (activation : Activation)
      (arguments : List Value) (progress : Progress)
      → opened code stop go activation arguments progress ≡ opened other stop go activation arguments progress
  opened_same stop go activation arguments progress =
      ap₂ (λ around locals. cond around
      (charged stop Cells (made progress.world (EnvironmentCell activation.env locals)) progress
      (go (record activation { env = value.Ref (heap_size progress.world.cells) }) []))
      (go activation locals progress)) (environment_same activation.body) (first_same activation.body arguments)

  at_level : (activation : Activation) (level : ℕ) → side_at code activation level ≡ side_at other activation level
  at_level activation zero = side_same activation.body
  at_level activation (suc level) = refl

  beside_same : (activation : Activation) (hops : ℕ) → is_beside code activation hops ≡ is_beside other activation hops
  beside_same activation zero = ap (λ around. cond around false true) (environment_same activation.body)
  beside_same activation (suc hops) = refl

  around_same : (heap : Heap) (activation : Activation) (hops : ℕ) → environment_at heap code activation hops ≡ environment_at heap other activation hops
  around_same heap activation hops =
      ap (λ around. cell_number (environment_out heap activation.env (cond around hops (hops - 1)))) (environment_same activation.body)

  reads_same : (heap : Heap) (activation : Activation) (locals : List Value) (hops index : ℕ)
      → local_at heap code activation locals hops index ≡ local_at heap other activation locals hops index
  reads_same heap activation locals hops index =
      ap₂ (λ beside at. cond beside (slice_index_or locals index value.Nil) (word_at heap at index)) (beside_same activation hops)
      (around_same heap activation hops)

  sets_same : (activation : Activation) (locals : List Value) (hops index : ℕ) (new : Value)
      → locals_with code activation locals hops index new ≡ locals_with other activation locals hops index new
  sets_same activation locals hops index new = ap (λ beside. cond beside (slice_set locals index new) locals) (beside_same activation hops)

  stores_same : (activation : Activation) (hops index : ℕ) (new : Value) (progress : Progress)
      → local_stored code activation hops index new progress ≡ local_stored other activation hops index new progress
  stores_same activation hops index new progress =
      ap₂ (λ beside at. in_world progress (cond beside progress.world (written progress.world at index new))) (beside_same activation hops)
      (around_same progress.world.cells activation hops)

  -- ---- classes and instances

  newly_same : (object holder class : ℕ) (over : Value) (site : Site) (progress : Progress)
      → newly_kept code object holder class over site progress ≡ newly_kept other object holder class over site progress
  newly_same object holder class over site progress =
      ap (λ base. class_made (ClassCell class base (value.Ref object) (value.Ref holder) over) (class_fault progress.world.cells over) site progress kept)
      (above_same code texts bodies progress.world.cells over)
      ∙ made_on (class_cell progress.world.cells other class (value.Ref object) (value.Ref holder) over) (class_fault progress.world.cells over) site progress kept _ λ number next.
      ap (λ word. Gives (value.Ref number) (in_world next (written next.world object word (value.Ref number))))
      (word_same code texts bodies next.world.cells holder (nested_entry code (declaration_of next.world.cells holder) class))
    where
      kept : ℕ → Progress → After
      kept number next = Gives (value.Ref number) (in_world next (keeping code object holder class number next.world))

  over_same : (object holder class : ℕ) (over : Value) (site : Site) (progress : Progress)
      → class_over code object holder class over site progress ≡ class_over other object holder class over site progress
  over_same object holder class over site progress =
      ap₂ (λ kept after. kept_or kept progress after) (kept_same code texts bodies progress.world.cells object holder class)
      (newly_same object holder class over site progress)

  head_same : (object holder class : ℕ) (clause : Option ℕ) (site : Site) (progress : Progress)
      → head code object holder class clause site progress ≡ head other object holder class clause site progress
  head_same object holder class None site progress = ap Now (over_same object holder class (value.Kernel Object) site progress)
  head_same object holder class (Some clause) site progress =
      charged_on halts Depth (entered progress.world) progress _ _ λ next. opened_same halts (Enter (FromClause object holder class)) _ [] next

  nested_same : (object holder class : ℕ) (kept : Option ℕ) (site : Site) (progress : Progress)
      → nested code object holder class kept site progress ≡ nested other object holder class kept site progress
  nested_same object holder class (Some kept) site progress = refl
  nested_same object holder class None site progress = head_same object holder class (clause_of code class) site progress

  -- an instance of so many entries
  abbrev instance_of : CodeProgram → ℕ → List Value → Site → Progress → ℕ → Control
  instance_of from class arguments site progress words =
      charged halts Cells (made progress.world (ObjectCell class (replicate words value.Nil))) progress
      (opened from halts (Enter FromBody)
      (record {
        self = value.Ref (heap_size progress.world.cells);
        holder = class;
        body = initialiser_of code (declaration_of progress.world.cells class);
        home = no_home;
        env = value.Nil;
        site = site;
      }) arguments)

  instance_same : (class : ℕ) (arguments : List Value) (site : Site) (progress : Progress)
      → instance code class arguments site progress ≡ instance other class arguments site progress
  instance_same class arguments site progress =
      ap (instance_of code class arguments site progress) (layout_same code texts bodies progress.world.cells class)
      ∙ charged_on halts Cells (made progress.world (ObjectCell class (replicate (layout_of progress.world.cells other class) value.Nil))) progress _ _
      (opened_same halts (Enter FromBody) _ arguments)

  declared_same : (activation : Activation) (over sel : ℕ) (arguments : List Value) (progress : Progress)
      → declared_part code activation over sel arguments progress ≡ declared_part other activation over sel arguments progress
  declared_same activation over sel arguments progress =
      ap (λ part. cond (sel == factory_selector code (declaration_of progress.world.cells over)) part (Stop (error InitMismatch activation.site) progress))
      (charged_on Stop Depth (entered progress.world) progress _ _ (opened_same Stop EnterPart _ arguments))

  part_same : (activation : Activation) (over : Value) (sel : ℕ) (arguments : List Value) (progress : Progress)
      → part_of code activation over sel arguments progress ≡ part_of other activation over sel arguments progress
  part_same activation value.Nil sel arguments progress = refl
  part_same activation value.True sel arguments progress = refl
  part_same activation value.False sel arguments progress = refl
  part_same activation (value.Int number) sel arguments progress = refl
  part_same activation (value.Sym name) sel arguments progress = refl
  part_same activation (value.Kernel class) sel arguments progress = refl
  part_same activation (value.Ref at) sel arguments progress = declared_same activation at sel arguments progress

  parts_same : (activation : Activation) (arguments : List Value) (progress : Progress)
      → super_part code activation arguments progress ≡ super_part other activation arguments progress
  parts_same activation arguments progress =
      part_same activation (superclass_in (find_cell progress.world.cells activation.holder))
      (super_selector code (declaration_of progress.world.cells activation.holder)) arguments progress

  fills_same : (activation : Activation) (slot : ℕ) (new : Value) (progress : Progress)
      → slot_filled code activation slot new progress ≡ slot_filled other activation slot new progress
  fills_same activation slot new progress =
      ap (λ word. in_world progress (stored progress.world activation.self word new)) (word_same code texts bodies progress.world.cells activation.holder slot)

  ends_same : (exit : Exit) (activation : Activation) (new : Value) (progress : Progress)
      → body_ended code exit activation new progress ≡ body_ended other exit activation new progress
  ends_same FromMethod activation new progress = refl
  ends_same FromBody activation new progress = refl
  ends_same (FromClause object holder class) activation new progress =
      over_same object holder class new activation.site (in_world progress (left progress.world))

  -- ---- what is done with what is found

  method_same : (body holder : ℕ) (receiver : Value) (arguments : Arguments) (site : Site) (progress : Progress)
      → method_entered code body holder receiver arguments site progress ≡ method_entered other body holder receiver arguments site progress
  method_same body holder receiver arguments site progress =
      charged_on halts Depth (entered progress.world) progress _ _ λ next.
      given_on arguments next _ _ λ values last.
      opened_same halts (λ activation locals progress. Enter FromMethod activation locals (one_more progress))
      (record { self = receiver; holder = holder; body = body; home = last.begun; env = value.Nil; site = site }) values last

  factory_same : (class : ℕ) (arguments : Arguments) (site : Site) (progress : Progress)
      → factory_entered code class arguments site progress ≡ factory_entered other class arguments site progress
  factory_same class arguments site progress =
      charged_on halts Depth (entered progress.world) progress _ _ λ next.
      given_on arguments next _ _ λ values next. instance_same class values site next

  within_same : (receiver : Value) (holder class : ℕ) (site : Site) (progress : Progress)
      → nested_in code receiver holder class site progress ≡ nested_in other receiver holder class site progress
  within_same value.Nil holder class site progress = refl
  within_same value.True holder class site progress = refl
  within_same value.False holder class site progress = refl
  within_same (value.Int number) holder class site progress = refl
  within_same (value.Sym sel) holder class site progress = refl
  within_same (value.Kernel kernel) holder class site progress = refl
  within_same (value.Ref object) holder class site progress =
      ap (λ kept. nested code object holder class kept site progress) (kept_same code texts bodies progress.world.cells object holder class)
      ∙ nested_same object holder class (kept_class progress.world.cells other object holder class) site progress

  done_same : (member : Found) (sel : Sel) (receiver : Value) (arguments : Arguments) (site : Site) (progress : Progress)
      → done_with code member sel receiver arguments site progress ≡ done_with other member sel receiver arguments site progress
  done_same (found.Method body holder) sel receiver arguments site progress = method_same body holder receiver arguments site progress
  done_same (found.Getter holder word) sel receiver arguments site progress = refl
  done_same (found.Setter holder word) sel receiver arguments site progress = refl
  done_same (found.Nested class holder) sel receiver arguments site progress = within_same receiver holder class site progress
  done_same (found.Factory class) sel receiver arguments site progress = factory_same class arguments site progress
  done_same (found.Kernel number) sel receiver arguments site progress =
      given_on arguments progress _ _ λ values next. row_same code texts bodies params_same (row_at number) sel receiver values site next
  done_same found.NotPublic sel receiver arguments site progress = refl
  done_same found.Absent sel receiver arguments site progress = refl

  missed_same : (member : Found) (sel : Sel) (receiver : Value) (values : List Value) (site : Site) (progress : Progress)
      → not_found code member sel receiver values site progress ≡ not_found other member sel receiver values site progress
  missed_same (found.Method body holder) sel receiver values site progress =
      done_same (found.Method body holder) (message_sel code) receiver (Wrapped sel values) site progress
  missed_same (found.Getter holder word) sel receiver values site progress =
      done_same (found.Getter holder word) (message_sel code) receiver (Wrapped sel values) site progress
  missed_same (found.Setter holder word) sel receiver values site progress =
      done_same (found.Setter holder word) (message_sel code) receiver (Wrapped sel values) site progress
  missed_same (found.Nested class holder) sel receiver values site progress =
      done_same (found.Nested class holder) (message_sel code) receiver (Wrapped sel values) site progress
  missed_same (found.Factory class) sel receiver values site progress =
      done_same (found.Factory class) (message_sel code) receiver (Wrapped sel values) site progress
  missed_same (found.Kernel number) sel receiver values site progress = refl
  missed_same found.NotPublic sel receiver values site progress =
      done_same found.NotPublic (message_sel code) receiver (Wrapped sel values) site progress
  missed_same found.Absent sel receiver values site progress =
      done_same found.Absent (message_sel code) receiver (Wrapped sel values) site progress

  answered_same : (member : Found) (sel : Sel) (receiver : Value) (values : List Value) (site : Site) (progress : Progress)
      → answered_by code member sel receiver values site progress ≡ answered_by other member sel receiver values site progress
  answered_same (found.Method body holder) sel receiver values site progress = done_same (found.Method body holder) sel receiver (Listed values) site progress
  answered_same (found.Getter holder word) sel receiver values site progress = done_same (found.Getter holder word) sel receiver (Listed values) site progress
  answered_same (found.Setter holder word) sel receiver values site progress = done_same (found.Setter holder word) sel receiver (Listed values) site progress
  answered_same (found.Nested class holder) sel receiver values site progress = done_same (found.Nested class holder) sel receiver (Listed values) site progress
  answered_same (found.Factory class) sel receiver values site progress = done_same (found.Factory class) sel receiver (Listed values) site progress
  answered_same (found.Kernel number) sel receiver values site progress = done_same (found.Kernel number) sel receiver (Listed values) site progress
  answered_same found.NotPublic sel receiver values site progress = done_same found.NotPublic sel receiver (Listed values) site progress
  answered_same found.Absent sel receiver values site progress =
      ap (λ member. not_found code member sel receiver values site progress)
      (found_same code texts bodies progress.world.cells (start_of progress.world.cells receiver) (own_number code DoesNotUnderstand) Inner)
      ∙ missed_same (found_from progress.world.cells other (start_of progress.world.cells receiver) (own_number code DoesNotUnderstand) Inner) sel receiver
      values site progress

  -- ---- sends and evaluations

  target_same : (heap : Heap) (activation : Activation) (target : Target) (sel : ℕ)
      → found_at heap code activation target sel ≡ found_at heap other activation target sel
  target_same heap activation (To receiver kind) sel = found_same code texts bodies heap (start_of heap receiver) sel kind
  target_same heap activation (ToPrivate level) sel =
      ap (λ side. found_private heap code (enclosing heap activation level).holder side sel) (at_level activation level)
      ∙ private_same code texts bodies heap (enclosing heap activation level).holder (side_at other activation level) sel
  target_same heap activation ToSuper sel =
      ap (λ side. found_from heap code (super_start heap activation.holder side) sel Inner) (side_same activation.body)
      ∙ found_same code texts bodies heap (super_start heap activation.holder (side_of_body other activation.body)) sel Inner

  sends_same : (activation : Activation) (target : Target) (sel : Sel) (values : List Value) (place : Option SourcePlace) (progress : Progress)
      → sent code activation target sel values place progress ≡ sent other activation target sel values place progress
  sends_same activation target sel values place progress =
      let heap = progress.world.cells in
      let receiver = receiver_of heap activation target in
      charged_on halts Steps (stepped progress.world) progress _ _ λ next.
      ap (λ member. answered_by code member sel receiver values (site_at heap place receiver sel) next) (target_same heap activation target sel.0)
      ∙ answered_same (found_at heap other activation target sel.0) sel receiver values (site_at heap place receiver sel) next

  from_same : (receiver : Value) (sel : Sel) (values : List Value) (site : Site) (progress : Progress)
      → sent_from code receiver sel values site progress ≡ sent_from other receiver sel values site progress
  from_same receiver sel values site progress =
      let heap = progress.world.cells in
      charged_on halts Steps (stepped progress.world) progress _ _ λ next.
      ap (λ member. answered_by code member sel receiver values site next) (found_same code texts bodies heap (start_of heap receiver) sel.0 Plain)
      ∙ answered_same (found_from heap other (start_of heap receiver) sel.0 Plain) sel receiver values site next

  plain_same : (receiver : Value) (sel : Sel) (values : List Value) (place : Option SourcePlace) (progress : Progress)
      → sent_plain code receiver sel values place progress ≡ sent_plain other receiver sel values place progress
  plain_same receiver sel values place progress = from_same receiver sel values (site_at progress.world.cells place receiver sel) progress

  block_same : (cell : NewCell) (arguments : List Value) (site : Site) (progress : Progress)
      → block_entered code cell arguments site progress ≡ block_entered other cell arguments site progress
  block_same (new.Block body env home receiver holder) arguments site progress =
      ap₂ (λ parameters begun. cond (length arguments == parameters) begun (fails WrongArity site progress)) (params_same body)
      (charged_on halts Steps (stepped progress.world) progress _ _ λ next.
      charged_on halts Depth (entered next.world) next _ _ (opened_same halts (Enter FromBody) _ arguments))
  block_same (new.Object class words) arguments site progress = refl
  block_same (new.Class decl base encl holder over) arguments site progress = refl
  block_same (new.Environment parent locals) arguments site progress = refl
  block_same (new.Array size) arguments site progress = refl
  block_same (new.Text bytes) arguments site progress = refl
  block_same (new.Facet kind) arguments site progress = refl
  block_same (new.Mirror shown) arguments site progress = refl
  block_same (new.Message sel args) arguments site progress = refl

  -- ---- the report

  cell_same : (cell : Option Cell) (class : List ℕ) → cell_text code cell class ≡ cell_text other cell class
  cell_same None class = refl
  cell_same (Some (ObjectCell kind entries)) class = refl
  cell_same (Some (ClassCell decl base encl holder over)) class = refl
  cell_same (Some (BlockCell body env home receiver holder)) class = refl
  cell_same (Some (EnvironmentCell parent locals)) class = refl
  cell_same (Some (ArrayCell items)) class = refl
  cell_same (Some (TextCell bytes)) class = refl
  cell_same (Some (FacetCell kind)) class = refl
  cell_same (Some (MirrorCell shown)) class = refl
  cell_same (Some (MessageCell sel args)) class = refl

  text_same : (heap : Heap) (shown : Value) → value_text heap code shown ≡ value_text heap other shown
  text_same heap value.Nil = refl
  text_same heap value.True = refl
  text_same heap value.False = refl
  text_same heap (value.Int number) = refl
  text_same heap (value.Sym sel) = refl
  text_same heap (value.Kernel class) = refl
  text_same heap (value.Ref at) =
      ap (cell_text code (find_cell heap at)) (class_same code texts bodies (class_name_of heap (value.Ref at)))
      ∙ cell_same (find_cell heap at) (class_text other (class_name_of heap (value.Ref at)))

  report_same : (heap : Heap) (files : List (List ℕ)) (ended : Ending) → report_line heap code files ended ≡ report_line heap other files ended
  report_same heap files (ending.Done shown) = ap (λ text. codes "=> " ++ text ++ 10 ∷ []) (text_same heap shown)
  report_same heap files (ending.Error error) =
      ap (λ text. place_text files error.place ++ codes ": " ++ kind_text error.kind ++ codes " " ++ text ++ codes " " ++ selector_text code error.sel.0 ++ 10 ∷ [])
      (class_same code texts bodies error.class)
  report_same heap files (ending.Limit limit) = refl

  -- ---- all actions

  recoded_alike : ActAlike code other
  recoded_alike = record {
    sends = sends_same;
    plain = plain_same;
    performs = λ receiver sel array site progress.
        plain_same receiver sel (items_of progress.world.cells (value.Ref array)) site.place progress;
    evaluates = λ block arguments site progress. block_same (shape_of_value progress.world.cells block) arguments site progress;
    parts = parts_same;
    ends = ends_same;
    reads = reads_same;
    sets = sets_same;
    stores = stores_same;
    fills = fills_same;
    starts = λ grants arguments limits. refl;
    reports = report_same;
  }

-- Codes with the same tables act alike.
pub act_alike : (code other : CodeProgram) → SameTables code other → ActAlike code other
act_alike code other same =
    let is : recoded code other.texts other.bodies ≡ other =
    ap₂ (λ files names. record other { files = files; names = names; classes = code.classes }) (sym same.files) (sym same.names)
    ∙ ap (λ classes. record other { classes = classes }) (sym same.classes) in
    subst (ActAlike code) is (recoded_alike code other.texts other.bodies same.heads)
