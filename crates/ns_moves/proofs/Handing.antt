-- What each action hands on fits.
use Rattle.std.proofs.Common.{◌≡◌, ℕ, ◌+◌, List, [], length, refl, ap, ◌∙◌, arith, Option, Some, None, Bool, true, false, cond, eqb, slice_get}
use Rattle.std.specs.Prelude.{IsSome}
use Rattle.std.specs.Option.{option_map_or}
use Rattle.ns_base.specs.declared.place.Place.{Place as SourcePlace}
use Rattle.ns_base.specs.declared.selector.Sel.{Sel}
use Rattle.ns_code.specs.declared.program.CodeProgram.{CodeProgram}
use Rattle.ns_code.specs.declared.body.BodyCode.{BodyCode}
use Rattle.ns_code.specs.Soundness.{block_kind, initialiser_kind, clause_kind}
use Rattle.std.proofs.lemmas.Bool.{eqb-true}
use Rattle.ns_world.specs.declared.value.Value.{Value}
use Rattle.ns_world.specs.declared.value.Value.TheVariants.{Nil, True, False, Int, Sym as SymValue, Kernel, Ref}
use Rattle.ns_world.specs.declared.cell.NewCell.TheVariants as new
use Rattle.ns_world.specs.declared.ending.Kind.TheVariants.{WrongArity}
use Rattle.ns_world.specs.declared.ending.LimitKind.TheVariants.{Steps, Depth}
use Rattle.ns_world.specs.Cell.{Cell, ObjectCell, ClassCell, BlockCell, EnvironmentCell, ArrayCell, TextCell, FacetCell, MirrorCell, MessageCell, shape_of}
use Rattle.ns_world.specs.Heap.{find_cell}
use Rattle.ns_world.specs.World.{World, stepped, entered}
use Rattle.ns_world.specs.Starts.{start_of}
use Rattle.ns_world.specs.Lawful.{IsLawful, IsLiveValue, BlockIsLawful}
use Rattle.ns_world.specs.Later.{RunsOn}
use Rattle.ns_world.specs.laws.Lawfully.{fits_stays}
use Rattle.ns_world.specs.laws.Lasting.{keeps_of}
use Rattle.ns_world.specs.laws.Leading.{later_on, later_stepped, later_entered}
use Rattle.ns_find.specs.declared.found.Sending.TheVariants.{Plain, Inner}
use Rattle.ns_find.specs.Find.{found_from, found_private, super_start}
use Rattle.ns_kdata.specs.Arguments.{items_of}
use Rattle.ns_moves.specs.declared.site.Site.{Site}
use Rattle.ns_moves.specs.Control.{Progress, in_world, Activation, FromBody, Control, Enter, halts, fails, charged}
use Rattle.ns_moves.specs.Bodies.{parameters_of, opened, enclosing, side_of_body, side_at}
use Rattle.ns_moves.specs.Blocks.{block_entered, evaluated}
use Rattle.ns_moves.specs.Sends.{Target, To, ToPrivate, ToSuper, site_at, sent, sent_plain}
use Rattle.ns_moves.specs.Lawful.{LawfulRun, FitsSelector, FitsTarget, declaration_at}
use Rattle.ns_moves.specs.Actions.{Action, Sends, SendsPlain, Performs, Evaluates, Continues, BeginsPart, EndsPart, EndsBody, MakesBlock, MakesText, MakesArray, FillsSlot, StoresLocal}
use Rattle.ns_moves.specs.Fitting.{FitsNext, Asks, HandsOn}
use Rattle.ns_moves.specs.laws.Onward.{charged_all}
use Rattle.ns_moves.specs.laws.BlocksOnward.{evaluated_onward}
use Rattle.ns_moves.specs.laws.LawfulBlocks.{self_live, evaluated_lawful}
use Rattle.ns_moves.specs.laws.LawfulSends.{super_fits, body_declared}
use Rattle.ns_moves.specs.lemmas.Suiting.{found_suits, private_suits}
use Rattle.ns_moves.specs.lemmas.Places.{places_fit}
use Rattle.ns_moves.specs.lemmas.Running.{BodyRuns, found_runs}
use Rattle.ns_moves.proofs.MethodsFit.{outer_private, super_runs}
use Rattle.ns_moves.specs.lemmas.RowsSuit.{value_suits, above_suits, own_suits}
use Rattle.ns_moves.proofs.WaitsFit.{method_hands_on}
use Rattle.ns_moves.specs.lemmas.Opening.{FitsAround}
use Rattle.ns_moves.proofs.Opening.{block_around}
use Rattle.ns_moves.proofs.PartsFit.{super_part_fits}
use Rattle.ns_moves.specs.lemmas.Fitting.{ShownLater, opened_fits, entered_here, body_lasts, fits_now, stepped_fits}

-- ---- sends

plain_fits : (code : CodeProgram) (receiver : Value) (sel : Sel) (values : List Value) (place : Option SourcePlace) (progress : Progress) →
    LawfulRun code progress → IsLiveValue progress.world.cells code receiver → FitsSelector progress.world.cells code sel values
    → FitsNext initialiser_kind code (sent_plain code receiver sel values place progress)
plain_fits code receiver sel values place progress lawful live fits =
    stepped_fits code (found_from progress.world.cells code (start_of progress.world.cells receiver) sel.0 Plain) sel receiver values (site_at progress.world.cells place receiver sel) progress lawful live fits
    (found_suits progress.world code receiver sel.0 Plain lawful) (found_runs progress.world code receiver sel.0 Plain lawful live) (value_suits progress.world.cells code receiver sel.0 Plain)

sent_fits :
    (code : CodeProgram) (activation : Activation) (target : Target) (sel : Sel) (values : List Value) (place : Option SourcePlace) (progress : Progress) →
    LawfulRun code progress → FitsTarget progress.world.cells code activation target → FitsSelector progress.world.cells code sel values
    → FitsNext initialiser_kind code (sent code activation target sel values place progress)
sent_fits code activation (To receiver kind) sel values place progress lawful live fits =
    stepped_fits code (found_from progress.world.cells code (start_of progress.world.cells receiver) sel.0 kind) sel receiver values (site_at progress.world.cells place receiver sel) progress lawful live fits
    (found_suits progress.world code receiver sel.0 kind lawful) (found_runs progress.world code receiver sel.0 kind lawful live) (value_suits progress.world.cells code receiver sel.0 kind)
sent_fits code activation (ToPrivate level) sel values place progress lawful (here, there) fits =
    declared (declaration_at code activation.body level) refl there
  where
    declared : (o : Option ℕ) → declaration_at code activation.body level ≡ o → IsSome o → FitsNext initialiser_kind code (sent code activation (ToPrivate level) sel values place progress)
    declared (Some decl) e some =
        let p = places_fit progress.world code activation level decl lawful here e in
        let o = enclosing progress.world.cells activation level in
        stepped_fits code (found_private progress.world.cells code o.holder (side_at code activation level) sel.0) sel o.object values (site_at progress.world.cells place o.object sel) progress lawful p.live fits
        (private_suits progress.world.cells code o.object o.holder (side_at code activation level) sel.0 p.has p.holder_is) (outer_private progress.world code activation level decl sel.0 lawful here e)
        (own_suits progress.world.cells code o.object o.holder (side_at code activation level) sel.0)
    declared None e some = absurd (cc)
sent_fits code activation ToSuper sel values place progress lawful here fits =
    declared (declaration_at code activation.body 0) refl (body_declared code activation.body here.there)
  where
    declared : (o : Option ℕ) → declaration_at code activation.body 0 ≡ o → IsSome o → FitsNext initialiser_kind code (sent code activation ToSuper sel values place progress)
    declared (Some decl) e some =
        let p = places_fit progress.world code activation 0 decl lawful here e in
        stepped_fits code (found_from progress.world.cells code (super_start progress.world.cells activation.holder (side_of_body code activation.body)) sel.0 Inner) sel activation.self values
        (site_at progress.world.cells place activation.self sel) progress lawful here.live fits
        (super_fits progress.world code activation (side_of_body code activation.body) sel.0 lawful p.has) (super_runs progress.world code activation sel.0 lawful here)
        (above_suits progress.world.cells code activation.self activation.holder (side_of_body code activation.body) sel.0)
    declared None e some = absurd (cc)

-- ---- evaluations

-- a block's body runs with its self and its holder
block_runs : (world : World) (code : CodeProgram) (number : ℕ) (env receiver : Value) (holder : ℕ) → IsLawful world code →
    BlockIsLawful world.cells code number env receiver holder →
    BodyRuns world.cells code receiver holder number block_kind (parameters_of code number)
block_runs world code number env receiver holder lawful block = there (slice_get code.bodies number) refl block.declared
  where
    there : (o : Option BodyCode) → slice_get code.bodies number ≡ o → IsSome o → BodyRuns world.cells code receiver holder number block_kind (parameters_of code number)
    there (Some body) e some = record {
      live = self_live world code number body receiver holder lawful e (block.fits body e);
      there = block.declared;
      fits = block.fits;
      kind_is = ap (λ o. option_map_or (λ (b : BodyCode). b.kind) o clause_kind) e ∙ block.is_block body e;
      params_are = refl;
    }
    there None e some = absurd (cc)

-- what the block keeps still stands around its body
kept_around : (old new : World) (code : CodeProgram) (number : ℕ) (env receiver : Value) (holder : ℕ) → RunsOn code old new →
    BlockIsLawful old.cells code number env receiver holder → FitsAround new.cells code number env
kept_around old later code number env receiver holder run block = there (slice_get code.bodies number) refl block.declared
  where
    there : (o : Option BodyCode) → slice_get code.bodies number ≡ o → IsSome o → FitsAround later.cells code number env
    there (Some body) e some = block_around later.cells code number body env run.after.parents e
        (fits_stays (number + 1) old.cells later.cells code body.parent env (keeps_of code old later run) (block.environment body e))
    there None e some = absurd (cc)

block_later : (code : CodeProgram) (o : Option Cell) (number : ℕ) (arguments : List Value) (site : Site) (progress : Progress) →
    LawfulRun code progress → find_cell progress.world.cells number ≡ o
    → ShownLater block_kind progress.world code (block_entered code (option_map_or shape_of o (new.Mirror Nil)) arguments site progress)
block_later code (Some (BlockCell body env home receiver holder)) number arguments site progress lawful e =
    tested (eqb (length arguments) (parameters_of code body)) refl
  where
    activation : Activation
    activation = record { self = receiver; holder = holder; body = body; home = home; env = env; site = site }

    runs : BodyRuns progress.world.cells code receiver holder body block_kind (parameters_of code body)
    runs = block_runs progress.world code body env receiver holder lawful (lawful.cells number (BlockCell body env home receiver holder) e)

    Counted : Type 0
    Counted = length arguments ≡ parameters_of code body

    framed : Progress → Control
    framed progress = charged halts Depth (entered progress.world) progress (opened code halts (Enter FromBody) activation arguments)

    within : Counted → (world : World) → stepped progress.world ≡ Some world → ShownLater block_kind progress.world code (framed (in_world progress world))
    within count world s =
        charged_all (ShownLater block_kind progress.world code) halts Depth (entered world) (in_world progress world) (opened code halts (Enter FromBody) activation arguments) tt
        (λ next d.
        opened_fits block_kind progress.world code (Enter FromBody) activation arguments (in_world progress next) (later_on progress.world world next (later_stepped progress.world world s) (later_entered world next d))
        (λ env' locals last more all. λ run.
        let here = body_lasts code progress.world last (record activation { env = env' }) block_kind (parameters_of code body) runs run in
        entered_here block_kind code last FromBody (record activation { env = env' }) env arguments locals block_kind (parameters_of code body) here count all
        (λ stands. kept_around progress.world last code body env receiver holder run (lawful.cells number (BlockCell body env home receiver holder) e))
        (λ is. let q : 1 ≡ 2 = is in absurd (omega (arith, q))) tt refl tt))

    tested : (b : Bool) → eqb (length arguments) (parameters_of code body) ≡ b → ShownLater block_kind progress.world code (cond b (charged halts Steps (stepped progress.world) progress framed) (fails WrongArity site progress))
    tested true t = charged_all (ShownLater block_kind progress.world code) halts Steps (stepped progress.world) progress framed tt (λ world s. within (eqb-true (length arguments) (parameters_of code body) t) world s)
    tested false t = tt
block_later code None number arguments site progress lawful e = tt
block_later code (Some (ObjectCell class entries)) number arguments site progress lawful e = tt
block_later code (Some (ClassCell decl base encl holder over)) number arguments site progress lawful e = tt
block_later code (Some (EnvironmentCell parent locals)) number arguments site progress lawful e = tt
block_later code (Some (ArrayCell items)) number arguments site progress lawful e = tt
block_later code (Some (TextCell bytes)) number arguments site progress lawful e = tt
block_later code (Some (FacetCell kind)) number arguments site progress lawful e = tt
block_later code (Some (MirrorCell mirrored)) number arguments site progress lawful e = tt
block_later code (Some (MessageCell sel args)) number arguments site progress lawful e = tt

evaluated_later : (code : CodeProgram) (block : Value) (arguments : List Value) (site : Site) (progress : Progress) →
    LawfulRun code progress → ShownLater block_kind progress.world code (evaluated code block arguments site progress)
evaluated_later code (Ref at) arguments site progress lawful =
    block_later code (find_cell progress.world.cells at) at arguments site progress lawful refl
evaluated_later code Nil arguments site progress lawful = tt
evaluated_later code True arguments site progress lawful = tt
evaluated_later code False arguments site progress lawful = tt
evaluated_later code (Int number) arguments site progress lawful = tt
evaluated_later code (SymValue sel) arguments site progress lawful = tt
evaluated_later code (Kernel class) arguments site progress lawful = tt

-- ---- all of them

pub action_hands_on : (code : CodeProgram) (action : Action) (progress : Progress) → LawfulRun code progress → Asks code action progress →
    HandsOn code action progress
action_hands_on code (Sends activation target sel values place) progress lawful asks =
    sent_fits code activation target sel values place progress lawful asks.0 asks.1
action_hands_on code (SendsPlain receiver sel values place) progress lawful asks =
    plain_fits code receiver sel values place progress lawful asks.0 asks.1
action_hands_on code (Performs receiver sel array site) progress lawful asks =
    plain_fits code receiver sel (items_of progress.world.cells (Ref array)) site.place progress lawful asks.0 asks.1
action_hands_on code (Evaluates block arguments site) progress lawful asks =
    fits_now block_kind progress.world code (evaluated code block arguments site progress) lawful (evaluated_onward [] code block arguments site progress).world.later
    (evaluated_lawful code block arguments site progress lawful asks) (evaluated_later code block arguments site progress lawful)
action_hands_on code (Continues method state site) progress lawful asks = method_hands_on method state site progress asks
action_hands_on code (BeginsPart activation arguments) progress lawful asks =
    super_part_fits code activation arguments progress lawful asks.0 asks.1
action_hands_on code EndsPart progress lawful asks = tt
action_hands_on code (EndsBody exit activation value) progress lawful asks = tt
action_hands_on code (MakesBlock activation body) progress lawful asks = tt
action_hands_on code (MakesText bytes) progress lawful asks = tt
action_hands_on code (MakesArray items) progress lawful asks = tt
action_hands_on code (FillsSlot activation slot value) progress lawful asks = tt
action_hands_on code (StoresLocal activation hops place value) progress lawful asks = tt
