-- What the laws of the crates below say of frames and of what waits, gathered.
use Rattle.std.specs.Prelude.{◌≡◌, ℕ, ◌<◌, ◌≤◌, List, length, Option, None, Some, All, IsTrue, IsSome, slice_get}
use Rattle.std.specs.Option.{ForSome}
use Rattle.ns_base.specs.declared.place.Place.{Place}
use Rattle.ns_base.specs.declared.selector.Sel.{Sel}
use Rattle.ns_code.specs.declared.program.CodeProgram.{CodeProgram}
use Rattle.ns_code.specs.declared.body.BodyCode.{BodyCode}
use Rattle.ns_code.specs.declared.instruction.Instr.{Instr}
use Rattle.ns_code.specs.declared.own.Own.{Own}
use Rattle.ns_code.specs.Own.{own_text}
use Rattle.ns_code.specs.Selector.{is_selector_number, selector_arity, text_arity, own_number}
use Rattle.ns_code.specs.Soundness.{initialiser_kind}
use Rattle.ns_world.specs.declared.value.Value.{Value}
use Rattle.ns_world.specs.World.{World, stepped, left}
use Rattle.ns_world.specs.Lawful.{IsLawful, IsLiveValue, HasHolder, FitsEnvironment, BlockIsLawful}
use Rattle.ns_world.specs.Later.{IsLater, Lasts}
use Rattle.ns_verify.specs.Heights.{heights}
use Rattle.ns_verify.specs.Verify.{IsSound}
use Rattle.ns_verify.specs.Chains.{around}
use Rattle.ns_verify.specs.Places.{HeightsAgree, HasNoCause, height_before, home_of}
use Rattle.ns_verify.specs.Uses.{IsUsable, StandsRight}
use Rattle.ns_kdata.specs.Arguments.{shape_of_value}
use Rattle.ns_world.specs.declared.kernel_parts.KMethod.{KMethod}
use Rattle.ns_kcode.specs.declared.state.KState.{KState}
use Rattle.ns_moves.specs.declared.site.Site.{Site}
use Rattle.ns_moves.specs.Control.{Progress, Activation, Exit}
use Rattle.ns_moves.specs.Bodies.{no_home, enclosing, local_at, local_stored}
use Rattle.ns_moves.specs.Classes.{super_part, body_ended, slot_filled}
use Rattle.ns_moves.specs.Blocks.{block_body_in, new_text, new_array, new_block, evaluated, method_next}
use Rattle.ns_moves.specs.Sends.{Target, receiver_of, site_at, sent, sent_from}
use Rattle.ns_moves.specs.Lawful.{LawfulRun, LawfulAfter, LawfulControl, LawfulPart, LawfulWaiting, LiveState, FitsActivation, FitsTarget, FitsSelector, FitsExit, FitsSlot, FitsLocal, declaration_at, body_out, IsBlockOf}
use Rattle.ns_moves.specs.Actions.{Action, progress_after}
use Rattle.ns_moves.specs.Spending.{Spends, ControlSpends}
use Rattle.ns_moves.specs.Fitting.{FitsMethod, FitsNext, FitsOwnEnvironment, FitsSite, GoesOnAt, PartGoesOnAt, EntersBlock, home_in, Asks, HandsOn}
use Rattle.ns_moves.specs.Onward.{reached}

-- Worlds: what is later, and which charges keep a world lawful.
pub record WorldsKnown : Type 0 where
  pub same : (world : World) → IsLater world world
  pub on : (first second third : World) → IsLater first second → IsLater second third → IsLater first third
  pub left_later : (world : World) → IsLater world (left world)
  pub step_later : (world after : World) → stepped world ≡ Some after → IsLater world after
  pub left_lawful : (world : World) (code : CodeProgram) → IsLawful world code → IsLawful (left world) code
  pub step_lawful : (world after : World) (code : CodeProgram) → IsLawful world code → stepped world ≡ Some after → IsLawful after code

-- What lasts while a run goes on.
pub record LastingKnown : Type 0 where
  pub values : (value : Value) → Lasts (λ heap code. IsLiveValue heap code value)
  pub holders : (value : Value) (holder : ℕ) → Lasts (λ heap code. HasHolder heap value holder)
  pub environments : (depth : ℕ) (body : Option ℕ) (env : Value) → Lasts (λ heap code. FitsEnvironment depth heap code body env)
  pub activations : (activation : Activation) → Lasts (λ heap code. FitsActivation heap code activation)
  pub exits : (exit : Exit) → Lasts (λ heap code. FitsExit heap code exit)
  pub states : (state : KState) → Lasts (λ heap code. LiveState heap code state)
  pub methods : (method : KMethod) (state : KState) → Lasts (λ heap code. FitsMethod heap method state)

-- Sound code, place by place.
pub record SoundKnown : Type 0 where
  pub no_cause : (code : CodeProgram) → IsSound code → HasNoCause code
  pub height : (body : BodyCode) (at : ℕ) (instr : Instr) → slice_get body.instrs at ≡ Some instr → slice_get (heights body) at ≡ Some (height_before body at)
  pub agree : (code : CodeProgram) (number at : ℕ) (body : BodyCode) (instr : Instr) → IsSound code → slice_get code.bodies number ≡ Some body
      → slice_get body.instrs at ≡ Some instr → HeightsAgree body at instr
  pub stands : (code : CodeProgram) (number : ℕ) (body : BodyCode) → IsSound code → slice_get code.bodies number ≡ Some body → StandsRight code number body
  pub usable : (code : CodeProgram) (number at : ℕ) (body : BodyCode) (instr : Instr) → IsSound code → slice_get code.bodies number ≡ Some body
      → slice_get body.instrs at ≡ Some instr → IsUsable code number body at instr

-- The kinds of outermost bodies.
pub record HomesKnown : Type 0 where
  pub inside : (code : CodeProgram) (number parent : ℕ) (body holder : BodyCode) → slice_get code.bodies number ≡ Some body → around number body ≡ Some parent
      → slice_get code.bodies parent ≡ Some holder → home_of code number body ≡ home_of code parent holder
  pub outermost : (code : CodeProgram) (number : ℕ) (body : BodyCode) → slice_get code.bodies number ≡ Some body → around number body ≡ None
      → home_of code number body ≡ body.kind

-- What actions lead to.
pub record ActionsKnown : Type 0 where
  pub leads : (code : CodeProgram) (action : Action) (progress : Progress) → IsLater progress.world (progress_after code action progress).world
  pub spends : (code : CodeProgram) (action : Action) (progress : Progress) → Spends code action progress
  pub hands_on : (code : CodeProgram) (action : Action) (progress : Progress) → LawfulRun code progress → Asks code action progress → HandsOn code action progress
  pub part : (code : CodeProgram) (activation : Activation) (arguments : List Value) (progress : Progress) → LawfulRun code progress
      → IsLiveValue progress.world.cells code activation.self → All (IsLiveValue progress.world.cells code) arguments
      → LawfulPart code (super_part code activation arguments progress)
  pub ended : (code : CodeProgram) (exit : Exit) (activation : Activation) (value : Value) (progress : Progress) → LawfulRun code progress
      → FitsExit progress.world.cells code exit → IsLiveValue progress.world.cells code value
      → LawfulAfter code (body_ended code exit activation value progress)
  pub next : (method : KMethod) (state : KState) (site : Site) (code : CodeProgram) (progress : Progress) → LawfulRun code progress
      → LiveState progress.world.cells code state → LawfulWaiting code (method_next method state site progress)
  pub part_at : (code : CodeProgram) (activation : Activation) (arguments : List Value) (progress : Progress)
      → PartGoesOnAt activation.site (super_part code activation arguments progress)

-- What sends and evaluations lead to.
pub record SendsKnown : Type 0 where
  pub lawful : (code : CodeProgram) (activation : Activation) (target : Target) (sel : Sel) (values : List Value) (place : Option Place) (progress : Progress)
      → LawfulRun code progress → FitsTarget progress.world.cells code activation target → FitsSelector progress.world.cells code sel values
      → LawfulControl code (sent code activation target sel values place progress)
  pub at : (code : CodeProgram) (activation : Activation) (target : Target) (sel : Sel) (values : List Value) (place : Option Place) (progress : Progress)
      → GoesOnAt (length values ≤ 255) (site_at progress.world.cells place (receiver_of progress.world.cells activation target) sel) no_home
      (sent code activation target sel values place progress)
  pub evaluated_lawful : (code : CodeProgram) (block : Value) (arguments : List Value) (site : Site) (progress : Progress) → LawfulRun code progress
      → All (IsLiveValue progress.world.cells code) arguments → LawfulControl code (evaluated code block arguments site progress)
  pub evaluated_at : (code : CodeProgram) (block : Value) (arguments : List Value) (site : Site) (progress : Progress)
      → GoesOnAt (length arguments ≤ 255) site (home_in (shape_of_value progress.world.cells block)) (evaluated code block arguments site progress)
  pub evaluated_body : (code : CodeProgram) (block : Value) (arguments : List Value) (site : Site) (progress : Progress)
      → EntersBlock (block_body_in (shape_of_value progress.world.cells block)) (evaluated code block arguments site progress)
  pub from_lawful : (code : CodeProgram) (receiver : Value) (sel : Sel) (values : List Value) (site : Site) (progress : Progress) → LawfulRun code progress
      → IsLiveValue progress.world.cells code receiver → FitsSelector progress.world.cells code sel values
      → LawfulControl code (sent_from code receiver sel values site progress)
  pub from_fits : (code : CodeProgram) (receiver : Value) (sel : Sel) (values : List Value) (site : Site) (progress : Progress) → LawfulRun code progress
      → IsLiveValue progress.world.cells code receiver → FitsSelector progress.world.cells code sel values
      → FitsNext initialiser_kind code (sent_from code receiver sel values site progress)
  pub from_at : (code : CodeProgram) (receiver : Value) (sel : Sel) (values : List Value) (site : Site) (progress : Progress)
      → GoesOnAt (FitsSelector progress.world.cells code sel values) site no_home (sent_from code receiver sel values site progress)
  pub from_later : (code : CodeProgram) (receiver : Value) (sel : Sel) (values : List Value) (site : Site) (progress : Progress)
      → IsLater progress.world (reached (sent_from code receiver sel values site progress)).world
  pub from_spends : (code : CodeProgram) (receiver : Value) (sel : Sel) (values : List Value) (site : Site) (progress : Progress)
      → ControlSpends 1 progress (sent_from code receiver sel values site progress)
  pub sites : (code : CodeProgram) (receiver : Value) (sel : Sel) (place : Option Place) (progress : Progress) → LawfulRun code progress
      → IsTrue (is_selector_number code sel.0) → ForSome place (λ (place : Place). place.file < length code.files)
      → FitsSite code (site_at progress.world.cells place receiver sel)

-- What running code makes, stores and names.
pub record NamesKnown : Type 0 where
  pub text : (code : CodeProgram) (bytes : List ℕ) (progress : Progress) → LawfulRun code progress → LawfulAfter code (new_text bytes progress)
  pub array : (code : CodeProgram) (items : List Value) (progress : Progress) → LawfulRun code progress → All (IsLiveValue progress.world.cells code) items
      → LawfulAfter code (new_array items progress)
  pub block : (code : CodeProgram) (activation : Activation) (body : ℕ) (progress : Progress) → LawfulRun code progress
      → BlockIsLawful progress.world.cells code body activation.env activation.self activation.holder → LawfulAfter code (new_block activation body progress)
  pub slot : (code : CodeProgram) (activation : Activation) (slot : ℕ) (value : Value) (progress : Progress) → LawfulRun code progress
      → FitsSlot progress.world.cells code activation slot → IsLiveValue progress.world.cells code value
      → LawfulRun code (slot_filled code activation slot value progress)
  pub stored : (code : CodeProgram) (activation : Activation) (hops place : ℕ) (value : Value) (progress : Progress) → LawfulRun code progress
      → FitsLocal progress.world.cells code activation hops → IsLiveValue progress.world.cells code value
      → LawfulRun code (local_stored code activation hops place value progress)
  pub enclosing_live : (code : CodeProgram) (activation : Activation) (level : ℕ) (progress : Progress) → LawfulRun code progress
      → FitsActivation progress.world.cells code activation → IsSome (declaration_at code activation.body level)
      → IsLiveValue progress.world.cells code (enclosing progress.world.cells activation level).object
  pub local_stands : (code : CodeProgram) (activation : Activation) (hops : ℕ) (progress : Progress) → FitsOwnEnvironment progress.world.cells code activation
      → IsSome (body_out code activation.body hops) → FitsLocal progress.world.cells code activation hops
  pub local_live : (code : CodeProgram) (activation : Activation) (locals : List Value) (hops : ℕ) (place : ℕ) (progress : Progress) → LawfulRun code progress
      → FitsLocal progress.world.cells code activation hops → All (IsLiveValue progress.world.cells code) locals
      → IsLiveValue progress.world.cells code (local_at progress.world.cells code activation locals hops place)
  pub block_lawful : (code : CodeProgram) (activation : Activation) (block : ℕ) (progress : Progress) → LawfulRun code progress
      → FitsActivation progress.world.cells code activation → FitsOwnEnvironment progress.world.cells code activation → IsBlockOf code block activation.body
      → BlockIsLawful progress.world.cells code block activation.env activation.self activation.holder

-- The machine's own selectors are selectors.
pub record OwnKnown : Type 0 where
  pub selectors : (code : CodeProgram) (own : Own) → IsTrue (is_selector_number code (own_number code own))
  pub arities : (code : CodeProgram) (own : Own) → selector_arity code (own_number code own) ≡ text_arity (own_text own)

-- all of it
pub record Known : Type 0 where
  pub worlds : WorldsKnown
  pub lasting : LastingKnown
  pub sound : SoundKnown
  pub actions : ActionsKnown
  pub sends : SendsKnown
  pub names : NamesKnown
  pub own : OwnKnown
  pub homes : HomesKnown
