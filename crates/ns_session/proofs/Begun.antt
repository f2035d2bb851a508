-- A run that was begun stays so.
use Rattle.std.proofs.Common.{ℕ, zero, suc, List, [], ◌∷◌, Option, Some, None, Bool, true, false, cond}
use Rattle.ns_base.specs.declared.place.Place.{Place as SourcePlace}
use Rattle.ns_code.specs.declared.program.CodeProgram.{CodeProgram}
use Rattle.ns_code.specs.declared.instruction.Instr.{Instr}
use Rattle.ns_code.specs.declared.instruction.Instr.TheVariants as i
use Rattle.ns_world.specs.declared.value.Value.{Value}
use Rattle.ns_world.specs.declared.ending.LimitKind.TheVariants.{Steps}
use Rattle.ns_world.specs.World.{World, stepped}
use Rattle.ns_world.specs.declared.kernel_parts.KMethod.{KMethod}
use Rattle.ns_moves.specs.declared.site.Site.{Site}
use Rattle.ns_moves.specs.Control.{Progress, Activation, After, Gives, Halts, Control, Now, Enter, Evaluate, Begin, Perform, PartControl, Skip, Stop, EnterPart, Waiting, Waits, Finishes, charged, frame_left}
use Rattle.ns_moves.specs.Classes.{body_ended}
use Rattle.ns_moves.specs.State.{Leaving, Loud, Silent, Frame, Running, Looping, Sending, Performing, Evaluating, Phase, Start, First, Second, Hosted, State, Unbegun, Going, Pends, Ended, Stuck}
use Rattle.ns_moves.specs.Steps.{PlacedInstr, steps_from}
use Rattle.ns_moves.specs.Operands.{on_top, taken_off, picked}
use Rattle.ns_moves.specs.Returns.{concluded, delivered, settled, returned, is_home, has_home, unwound, returned_home}
use Rattle.ns_moves.specs.Arrivals.{arrived, part_arrived, acted_on}
use Rattle.ns_moves.specs.Jumps.{goes_back, jumped, takes_jump, jumped_on}
use Rattle.ns_world.specs.Booleans.{is_boolean}
use Rattle.ns_moves.specs.Instructions.{executed}
use Rattle.ns_moves.specs.Move.{move, moves}
use Rattle.ns_moves.specs.Starts.{unbegun, started}
use Rattle.ns_session.specs.Reached.{HasBegun}

-- ---- operands

top_begun : (missing : State) (stack : List Value) (go : Value → List Value → State) → HasBegun missing
    → ((v : Value) (below : List Value) → HasBegun (go v below)) → HasBegun (on_top missing stack go)
top_begun missing [] go m g = m
top_begun missing (v ∷ below) go m g = g v below

taken_begun : (missing : State) (count : ℕ) (values stack : List Value) (go : List Value → List Value → State) → HasBegun missing
    → ((vs below : List Value) → HasBegun (go vs below)) → HasBegun (taken_off missing count values stack go)
taken_begun missing zero values stack go m g = g values stack
taken_begun missing (suc count) values [] go m g = m
taken_begun missing (suc count) values (v ∷ stack) go m g = taken_begun missing count (v ∷ values) stack go m g

picked_begun : (missing : State) (place : ℕ) (stack : List Value) (go : Value → State) → HasBegun missing → ((v : Value) → HasBegun (go v))
    → HasBegun (picked missing place stack go)
picked_begun missing place [] go m g = m
picked_begun missing zero (v ∷ stack) go m g = g v
picked_begun missing (suc place) (v ∷ stack) go m g = picked_begun missing place stack go m g

-- ---- what an action leads to

module _ (code : CodeProgram) (phase : Phase) where
  concluded_begun : (f : Phase) (answer : Value) (p : Progress) → HasBegun (concluded code f answer p)
  concluded_begun Start answer p = tt
  concluded_begun (First arguments) answer p = tt
  concluded_begun Second answer p = tt
  concluded_begun Hosted answer p = tt

  delivered_begun : (answer : Value) (frames : List Frame) (p : Progress) → HasBegun (delivered code phase answer frames p)
  delivered_begun answer [] p = concluded_begun phase answer p
  delivered_begun answer (Running leaving a ls rest stack ∷ frames) p = tt
  delivered_begun answer (Looping method state site ∷ frames) p = tt

  settled_begun : (after : After) (frames : List Frame) → HasBegun (settled code phase after frames)
  settled_begun (Gives answer p) frames = delivered_begun answer frames p
  settled_begun (Halts ending p) frames = tt

  arrived_begun : (c : Control) (frames : List Frame) → HasBegun (arrived code phase c frames)
  arrived_begun (Now after) frames = settled_begun after frames
  arrived_begun (Enter exit a ls p) frames = tt
  arrived_begun (Evaluate block arguments site p) frames = tt
  arrived_begun (Begin method state site p) frames = tt
  arrived_begun (Perform receiver sel array site p) frames = tt

  part_begun : (part : PartControl) (frames : List Frame) → HasBegun (part_arrived code phase part frames)
  part_begun (Skip p) frames = tt
  part_begun (Stop ending p) frames = tt
  part_begun (EnterPart a ls p) frames = tt

  acted_begun : (method : KMethod) (site : Site) (w : Waiting) (frames : List Frame) → HasBegun (acted_on code phase method site w frames)
  acted_begun method site (Waits block arguments state p) frames = tt
  acted_begun method site (Finishes after) frames = settled_begun after frames

  cond_begun : (b : Bool) (one other : State) → HasBegun one → HasBegun other → HasBegun (cond b one other)
  cond_begun true one other h g = h
  cond_begun false one other h g = g

  unwound_begun : (home : ℕ) (answer : Value) (frames : List Frame) (p : Progress) → HasBegun (unwound code phase home answer frames p)
  unwound_begun home answer [] p = tt
  unwound_begun home answer (frame ∷ frames) p =
      cond_begun (is_home home frame) _ _ (delivered_begun answer frames (frame_left p)) (unwound_begun home answer frames (frame_left p))

  returned_begun : (how : Leaving) (a : Activation) (answer : Value) (frames : List Frame) (p : Progress) → HasBegun (returned code phase how a answer frames p)
  returned_begun (Loud exit) a answer frames p = settled_begun (body_ended code exit a answer p) frames
  returned_begun Silent a answer frames p = tt

  home_begun : (a : Activation) (answer : Value) (frames : List Frame) (p : Progress) → HasBegun (returned_home code phase a answer frames p)
  home_begun a answer frames p = cond_begun (has_home a.home frames) _ _ (unwound_begun a.home answer frames p) tt

  -- ---- instructions

  module _ (leaving : Leaving) (a : Activation) (ls : List Value) (rest : List PlacedInstr) (frames : List Frame) (p : Progress) where
    charged_begun : (o : Option World) (go : Progress → State) → ((q : Progress) → HasBegun (go q))
        → HasBegun (charged (λ ending q. Ended ending phase q) Steps o p go)
    charged_begun (Some world) go g = g _
    charged_begun None go g = tt

    jumped_begun : (landing : List PlacedInstr) (stack : List Value) → HasBegun (jumped phase leaving a ls rest landing stack frames p)
    jumped_begun landing stack =
        cond_begun (goes_back rest landing) _ _
        (charged_begun (stepped p.world) (Going phase (Running leaving a ls landing stack ∷ frames)) (λ q. tt)) tt

    jumped_on_begun : (wanted : Bool) (v : Value) (landing : List PlacedInstr) (stack : List Value)
        → HasBegun (jumped_on phase wanted v leaving a ls rest landing stack frames p)
    jumped_on_begun wanted v landing stack =
        cond_begun (is_boolean v) _ _ (cond_begun (takes_jump wanted v) _ _ (jumped_begun landing stack) tt) tt

    executed_begun : (instr : Instr) (place : Option SourcePlace) (stack : List Value)
        → HasBegun (executed code phase instr place leaving a ls rest stack frames p)
    executed_begun i.PushNil place stack = tt
    executed_begun i.PushTrue place stack = tt
    executed_begun i.PushFalse place stack = tt
    executed_begun (i.PushInt number) place stack = tt
    executed_begun (i.PushSym sel) place stack = tt
    executed_begun (i.PushText text) place stack = settled_begun _ (Running leaving a ls rest stack ∷ frames)
    executed_begun i.PushSelf place stack = tt
    executed_begun (i.PushOuter level) place stack = tt
    executed_begun (i.PushLocal hops index) place stack = tt
    executed_begun (i.StoreLocal hops index) place stack = top_begun (Stuck p) stack _ tt (λ v below. tt)
    executed_begun (i.PushBlock body) place stack = settled_begun _ (Running leaving a ls rest stack ∷ frames)
    executed_begun (i.MakeArray count) place stack =
        taken_begun (Stuck p) count [] stack _ tt (λ vs below. settled_begun _ (Running leaving a ls rest below ∷ frames))
    executed_begun i.Pop place stack = top_begun (Stuck p) stack _ tt (λ v below. tt)
    executed_begun (i.Pick number) place stack = picked_begun (Stuck p) number stack _ tt (λ v. tt)
    executed_begun (i.Send sel argc) place stack =
        taken_begun (Stuck p) argc [] stack _ tt
        (λ vs below. top_begun (Stuck p) below _ tt (λ v below. arrived_begun _ (Running leaving a ls rest below ∷ frames)))
    executed_begun (i.SendInner sel argc) place stack =
        taken_begun (Stuck p) argc [] stack _ tt
        (λ vs below. top_begun (Stuck p) below _ tt (λ v below. arrived_begun _ (Running leaving a ls rest below ∷ frames)))
    executed_begun (i.SendPrivate level sel argc) place stack =
        taken_begun (Stuck p) argc [] stack _ tt (λ vs below. arrived_begun _ (Running leaving a ls rest below ∷ frames))
    executed_begun (i.SendSuper sel argc) place stack =
        taken_begun (Stuck p) argc [] stack _ tt (λ vs below. arrived_begun _ (Running leaving a ls rest below ∷ frames))
    executed_begun (i.InitSuper argc) place stack =
        taken_begun (Stuck p) argc [] stack _ tt (λ vs below. part_begun _ (Running leaving a ls rest below ∷ frames))
    executed_begun (i.StoreSlot slot) place stack = top_begun (Stuck p) stack _ tt (λ v below. tt)
    executed_begun i.Return place stack = top_begun (Stuck p) stack _ tt (λ v below. returned_begun leaving a v frames p)
    executed_begun i.ReturnSelf place stack = returned_begun leaving a a.self frames p
    executed_begun i.ReturnHome place stack =
        top_begun (Stuck p) stack _ tt (λ v below. home_begun a v (Running leaving a ls rest below ∷ frames) p)
    executed_begun (i.Jump target) place stack = jumped_begun (steps_from code a.body target) stack
    executed_begun (i.JumpFalse target) place stack =
        top_begun (Stuck p) stack _ tt (λ v below. jumped_on_begun false v (steps_from code a.body target) below)
    executed_begun (i.JumpTrue target) place stack =
        top_begun (Stuck p) stack _ tt (λ v below. jumped_on_begun true v (steps_from code a.body target) below)

-- ---- moves

move_begun : (code : CodeProgram) (s : State) → HasBegun s → HasBegun (move code s)
move_begun code (Unbegun arguments p) h = h
move_begun code (Ended ending phase p) h = tt
move_begun code (Stuck p) h = tt
move_begun code (Going phase [] p) h = tt
move_begun code (Going phase (Running leaving a ls [] stack ∷ frames) p) h = tt
move_begun code (Going phase (Running leaving a ls (step ∷ rest) stack ∷ frames) p) h =
    executed_begun code phase leaving a ls rest frames p step.0 step.1 stack
move_begun code (Going phase (Looping method state site ∷ frames) p) h = acted_begun code phase method site _ frames
move_begun code (Pends phase (Sending receiver sel arguments site) frames p) h = arrived_begun code phase _ frames
move_begun code (Pends phase (Performing receiver sel array site) frames p) h = arrived_begun code phase _ frames
move_begun code (Pends phase (Evaluating block arguments site) frames p) h = arrived_begun code phase _ frames

pub moves_begun : (code : CodeProgram) (count : ℕ) (s : State) → HasBegun s → HasBegun (moves code count s)
moves_begun code zero s h = h
moves_begun code (suc count) s h = moves_begun code count (move code s) (move_begun code s h)

-- a machine that was started has begun
pub started_begun : (code : CodeProgram) (after : After) → HasBegun (started code (unbegun after))
started_begun code (Gives array p) = tt
started_begun code (Halts ending p) = tt
