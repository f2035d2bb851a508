-- A run that has begun doesn't come back to where nothing was begun.
use Rattle.std.proofs.Common.{◌≡◌, ℕ, zero, suc, List, [], ◌∷◌, refl, Option, Some, None, Bool, true, false, if◌then◌else◌}
use Rattle.ns_base.specs.declared.place.Place.{Place as SourcePlace}
use Rattle.ns_code.specs.declared.instruction.Instr.{Instr}
use Rattle.ns_code.specs.declared.instruction.Instr.TheVariants as i
use Rattle.ns_code.specs.declared.program.CodeProgram.{CodeProgram}
use Rattle.ns_find.specs.declared.found.Sending.TheVariants.{Inner}
use Rattle.ns_world.specs.declared.kernel_parts.KMethod.{KMethod}
use Rattle.ns_kdata.specs.Arguments.{items_of}
use Rattle.ns_moves.specs.Arrivals.{arrived, part_arrived, acted_on}
use Rattle.ns_moves.specs.Instructions.{executed}
use Rattle.ns_moves.specs.Jumps.{goes_back, takes_jump, jumped, jumped_on}
use Rattle.ns_moves.specs.Move.{sent_on, move, moves}
use Rattle.ns_moves.specs.Operands.{on_top, taken_off, picked}
use Rattle.ns_moves.specs.Returns.{is_home, has_home, delivered, settled, returned, unwound, returned_home}
use Rattle.ns_moves.specs.Starts.{started}
use Rattle.ns_moves.specs.State.{Leaving, Loud, Silent, Frame, Running, Looping, Sending, Performing, Evaluating}
use Rattle.ns_moves.specs.State.{Phase, Start, First, Second, Hosted, State, Unbegun, Going, Pends, Ended, Stuck}
use Rattle.ns_moves.specs.Steps.{PlacedInstr, steps_from, literal}
use Rattle.ns_moves.specs.Blocks.{evaluated, method_next, new_block, new_text, new_array}
use Rattle.ns_world.specs.Booleans.{is_boolean}
use Rattle.ns_moves.specs.Classes.{body_ended, super_part}
use Rattle.ns_moves.specs.Control.{Progress, Activation, After, Gives, Halts, Control, Now, Enter, Evaluate, Begin, Perform, charged, frame_left}
use Rattle.ns_moves.specs.Control.{PartControl, Skip, Stop, EnterPart, Waiting, Waits, Finishes}
use Rattle.ns_moves.specs.Sends.{To, ToPrivate, ToSuper, to_value, sent}
use Rattle.ns_moves.specs.declared.site.Site.{Site}
use Rattle.ns_world.specs.World.{World, stepped}
use Rattle.ns_world.specs.declared.ending.LimitKind.TheVariants.{Steps}
use Rattle.ns_world.specs.declared.value.Value.{Value}
use Rattle.ns_world.specs.declared.value.Value.TheVariants.{Ref}

-- whether something was begun
abbrev pub is_begun : State → Bool
is_begun (Unbegun arguments p) = false
is_begun (Going phase frames p) = true
is_begun (Pends phase pending frames p) = true
is_begun (Ended ending phase p) = true
is_begun (Stuck p) = true

abbrev Begun : State → Type 0
Begun s = is_begun s ≡ true

-- ---- operands and tests

on_top_begun : (missing : State) (stack : List Value) (go : Value → List Value → State) → Begun missing
    → ((v : Value) (below : List Value) → Begun (go v below)) → Begun (on_top missing stack go)
on_top_begun missing [] go m g = m
on_top_begun missing (v ∷ below) go m g = g v below

taken_begun : (missing : State) (count : ℕ) (values stack : List Value) (go : List Value → List Value → State) → Begun missing
    → ((vs below : List Value) → Begun (go vs below)) → Begun (taken_off missing count values stack go)
taken_begun missing zero values stack go m g = g values stack
taken_begun missing (suc count) values [] go m g = m
taken_begun missing (suc count) values (v ∷ stack) go m g = taken_begun missing count (v ∷ values) stack go m g

picked_begun : (missing : State) (place : ℕ) (stack : List Value) (go : Value → State) → Begun missing → ((v : Value) → Begun (go v))
    → Begun (picked missing place stack go)
picked_begun missing place [] go m g = m
picked_begun missing zero (v ∷ stack) go m g = g v
picked_begun missing (suc place) (v ∷ stack) go m g = picked_begun missing place stack go m g

either_begun : (b : Bool) (one other : State) → Begun one → Begun other → Begun (if b then one else other)
either_begun true one other x y = x
either_begun false one other x y = y

-- ---- where actions lead

concluded_begun : (code : CodeProgram) (phase : Phase) (v : Value) (p : Progress) → Begun (delivered code phase v [] p)
concluded_begun code Start v p = refl
concluded_begun code (First arguments) v p = refl
concluded_begun code Second v p = refl
concluded_begun code Hosted v p = refl

delivered_begun : (code : CodeProgram) (phase : Phase) (v : Value) (frames : List Frame) (p : Progress) →
    Begun (delivered code phase v frames p)
delivered_begun code phase v [] p = concluded_begun code phase v p
delivered_begun code phase v (Running leaving a ls rest stack ∷ frames) p = refl
delivered_begun code phase v (Looping method state site ∷ frames) p = refl

settled_begun : (code : CodeProgram) (phase : Phase) (after : After) (frames : List Frame) → Begun (settled code phase after frames)
settled_begun code phase (Gives v p) frames = delivered_begun code phase v frames p
settled_begun code phase (Halts ending p) frames = refl

arrived_begun : (code : CodeProgram) (phase : Phase) (c : Control) (frames : List Frame) → Begun (arrived code phase c frames)
arrived_begun code phase (Now after) frames = settled_begun code phase after frames
arrived_begun code phase (Enter exit a ls p) frames = refl
arrived_begun code phase (Evaluate block arguments site p) frames = refl
arrived_begun code phase (Begin method state site p) frames = refl
arrived_begun code phase (Perform receiver sel array site p) frames = refl

part_begun : (code : CodeProgram) (phase : Phase) (part : PartControl) (frames : List Frame) → Begun (part_arrived code phase part frames)
part_begun code phase (Skip p) frames = refl
part_begun code phase (Stop ending p) frames = refl
part_begun code phase (EnterPart a ls p) frames = refl

acted_begun : (code : CodeProgram) (phase : Phase) (method : KMethod) (site : Site) (w : Waiting) (frames : List Frame)
    → Begun (acted_on code phase method site w frames)
acted_begun code phase method site (Waits block arguments state p) frames = refl
acted_begun code phase method site (Finishes after) frames = settled_begun code phase after frames

returned_begun : (code : CodeProgram) (phase : Phase) (leaving : Leaving) (a : Activation) (v : Value) (frames : List Frame) (p : Progress)
    → Begun (returned code phase leaving a v frames p)
returned_begun code phase (Loud exit) a v frames p = settled_begun code phase (body_ended code exit a v p) frames
returned_begun code phase Silent a v frames p = refl

unwound_begun : (code : CodeProgram) (phase : Phase) (home : ℕ) (v : Value) (frames : List Frame) (p : Progress) →
    Begun (unwound code phase home v frames p)
unwound_begun code phase home v [] p = refl
unwound_begun code phase home v (frame ∷ frames) p =
    either_begun (is_home home frame) _ _ (delivered_begun code phase v frames (frame_left p)) (unwound_begun code phase home v frames (frame_left p))

home_begun : (code : CodeProgram) (phase : Phase) (a : Activation) (v : Value) (frames : List Frame) (p : Progress)
    → Begun (returned_home code phase a v frames p)
home_begun code phase a v frames p = either_begun (has_home a.home frames) _ _ (unwound_begun code phase a.home v frames p) refl

-- ---- instructions

module _ (code : CodeProgram) (phase : Phase) (leaving : Leaving) (a : Activation) (ls : List Value) (rest : List PlacedInstr) (frames : List Frame)
    (p : Progress) where
  charged_begun : (landing : List PlacedInstr) (stack : List Value) (o : Option World)
      → Begun (charged (λ ending progress. Ended ending phase progress) Steps o p (Going phase (Running leaving a ls landing stack ∷ frames)))
  charged_begun landing stack (Some world) = refl
  charged_begun landing stack None = refl

  jumped_begun : (landing : List PlacedInstr) (stack : List Value) → Begun (jumped phase leaving a ls rest landing stack frames p)
  jumped_begun landing stack = either_begun (goes_back rest landing) _ _ (charged_begun landing stack (stepped p.world)) refl

  jumped_on_begun : (wanted : Bool) (landing : List PlacedInstr) (v : Value) (below : List Value)
      → Begun (jumped_on phase wanted v leaving a ls rest landing below frames p)
  jumped_on_begun wanted landing v below =
      either_begun (is_boolean v) _ _ (either_begun (takes_jump wanted v) _ _ (jumped_begun landing below) refl) refl

  executed_begun : (instr : Instr) (place : Option SourcePlace) (stack : List Value)
      → Begun (executed code phase instr place leaving a ls rest stack frames p)
  executed_begun i.PushNil place stack = refl
  executed_begun i.PushTrue place stack = refl
  executed_begun i.PushFalse place stack = refl
  executed_begun (i.PushInt number) place stack = refl
  executed_begun (i.PushSym sel) place stack = refl
  executed_begun (i.PushText text) place stack =
      settled_begun code phase (new_text (literal code text) p) (Running leaving a ls rest stack ∷ frames)
  executed_begun i.PushSelf place stack = refl
  executed_begun (i.PushOuter level) place stack = refl
  executed_begun (i.PushLocal hops index) place stack = refl
  executed_begun (i.StoreLocal hops index) place stack = on_top_begun (Stuck p) stack _ refl (λ v below. refl)
  executed_begun (i.PushBlock body) place stack = settled_begun code phase (new_block a body p) (Running leaving a ls rest stack ∷ frames)
  executed_begun (i.MakeArray count) place stack =
      taken_begun (Stuck p) count [] stack _ refl
      (λ items below. settled_begun code phase (new_array items p) (Running leaving a ls rest below ∷ frames))
  executed_begun i.Pop place stack = on_top_begun (Stuck p) stack _ refl (λ v below. refl)
  executed_begun (i.Pick number) place stack = picked_begun (Stuck p) number stack _ refl (λ v. refl)
  executed_begun (i.Send sel argc) place stack =
      taken_begun (Stuck p) argc [] stack _ refl
      (λ vs below.
      on_top_begun (Stuck p) below _ refl
      (λ v below. arrived_begun code phase (sent code a (to_value v) sel vs place p) (Running leaving a ls rest below ∷ frames)))
  executed_begun (i.SendInner sel argc) place stack =
      taken_begun (Stuck p) argc [] stack _ refl
      (λ vs below.
      on_top_begun (Stuck p) below _ refl
      (λ v below. arrived_begun code phase (sent code a (To v Inner) sel vs place p) (Running leaving a ls rest below ∷ frames)))
  executed_begun (i.SendPrivate level sel argc) place stack =
      taken_begun (Stuck p) argc [] stack _ refl
      (λ vs below. arrived_begun code phase (sent code a (ToPrivate level) sel vs place p) (Running leaving a ls rest below ∷ frames))
  executed_begun (i.SendSuper sel argc) place stack =
      taken_begun (Stuck p) argc [] stack _ refl
      (λ vs below. arrived_begun code phase (sent code a ToSuper sel vs place p) (Running leaving a ls rest below ∷ frames))
  executed_begun (i.InitSuper argc) place stack =
      taken_begun (Stuck p) argc [] stack _ refl
      (λ vs below. part_begun code phase (super_part code a vs p) (Running leaving a ls rest below ∷ frames))
  executed_begun (i.StoreSlot slot) place stack = on_top_begun (Stuck p) stack _ refl (λ v below. refl)
  executed_begun i.Return place stack = on_top_begun (Stuck p) stack _ refl (λ v below. returned_begun code phase leaving a v frames p)
  executed_begun i.ReturnSelf place stack = returned_begun code phase leaving a a.self frames p
  executed_begun i.ReturnHome place stack =
      on_top_begun (Stuck p) stack _ refl (λ v below. home_begun code phase a v (Running leaving a ls rest below ∷ frames) p)
  executed_begun (i.Jump target) place stack = jumped_begun (steps_from code a.body target) stack
  executed_begun (i.JumpFalse target) place stack =
      on_top_begun (Stuck p) stack _ refl (jumped_on_begun false (steps_from code a.body target))
  executed_begun (i.JumpTrue target) place stack =
      on_top_begun (Stuck p) stack _ refl (jumped_on_begun true (steps_from code a.body target))

-- ---- moves

move_begun : (code : CodeProgram) (s : State) → Begun s → Begun (move code s)
move_begun code (Unbegun arguments p) begun = absurd (cc)
move_begun code (Ended ending phase p) begun = refl
move_begun code (Stuck p) begun = refl
move_begun code (Going phase [] p) begun = refl
move_begun code (Going phase (Running leaving a ls [] stack ∷ frames) p) begun = refl
move_begun code (Going phase (Running leaving a ls (step ∷ rest) stack ∷ frames) p) begun =
    executed_begun code phase leaving a ls rest frames p step.0 step.1 stack
move_begun code (Going phase (Looping method state site ∷ frames) p) begun =
    acted_begun code phase method site (method_next method state site p) frames
move_begun code (Pends phase (Sending receiver sel arguments site) frames p) begun =
    arrived_begun code phase (sent_on code receiver sel arguments site p) frames
move_begun code (Pends phase (Performing receiver sel array site) frames p) begun =
    arrived_begun code phase (sent_on code receiver sel (items_of p.world.cells (Ref array)) site p) frames
move_begun code (Pends phase (Evaluating block arguments site) frames p) begun =
    arrived_begun code phase (evaluated code block arguments site p) frames

pub moves_begun : (code : CodeProgram) (count : ℕ) (s : State) → is_begun s ≡ true → is_begun (moves code count s) ≡ true
moves_begun code zero s begun = begun
moves_begun code (suc count) s begun = moves_begun code count (move code s) (move_begun code s begun)

pub started_begun : (code : CodeProgram) (s : State) → is_begun (started code s) ≡ true
started_begun code (Unbegun arguments p) = refl
started_begun code (Going phase frames p) = refl
started_begun code (Pends phase pending frames p) = refl
started_begun code (Ended ending phase p) = refl
started_begun code (Stuck p) = refl
