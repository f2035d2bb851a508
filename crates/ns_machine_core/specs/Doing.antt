-- An instruction that is done: what it finds, and what it leads to.
use Rattle.std.specs.Prelude.{◌≡◌, ℕ, ◌+◌, ◌-◌, ◌≤◌, ◌<◌, true, Some, List, [], ◌∷◌, length, slice_get, Option, Result, All}
use Rattle.std.specs.Option.{ForSome}
use Rattle.ns_code.specs.declared.body.BodyCode.{BodyCode}
use Rattle.ns_verify.specs.Verify.{IsSound}
use Rattle.ns_verify.specs.Uses.{IsUsable}
use Rattle.ns_moves.specs.Fitting.{FitsObject, FitsSite, environment_body, locals_beside}
use Rattle.ns_base.specs.declared.place.Place.{Place as SourcePlace}
use Rattle.ns_code.specs.declared.program.CodeProgram.{CodeProgram}
use Rattle.ns_code.specs.declared.instruction.Instr.{Instr}
use Rattle.ns_code.specs.Table.{takes, leaves, goes_on, target}
use Rattle.ns_world.specs.declared.value.Value.{Value}
use Rattle.ns_world.specs.declared.ending.Fault.{Fault}
use Rattle.ns_world.specs.Lawful.{IsLiveValue, IsLawful, FitsEnvironment}
use Rattle.ns_moves.specs.Control.{Progress}
use Rattle.ns_moves.specs.Lawful.{FitsActivation}
use Rattle.ns_moves.specs.Shown.{answer_shown}
use Rattle.ns_moves.specs.State.{Phase, State, Stuck}
use Rattle.ns_moves.specs.Steps.{steps_of, steps_from}
use Rattle.ns_moves.specs.Instructions.{executed}
use Rattle.ns_moves.specs.Returns.{settled}
use Rattle.ns_moves.specs.WorldAsks.{InstrAsks}
use Rattle.ns_moves.specs.declared.running.Running.{Running as RunningCode}
use Rattle.ns_machine_frames.specs.declared.frame.Activation.{Activation as KeptActivation}
use Rattle.ns_machine_frames.specs.declared.frame.Frame.{Frame}
use Rattle.ns_machine_frames.specs.declared.frame.Frame.TheVariants.{Running, Looping}
use Rattle.ns_machine_frames.specs.declared.frame.KeptSite.{KeptSite}
use Rattle.ns_machine_frames.specs.declared.frame.RunningFrame.{RunningFrame}
use Rattle.ns_machine_frames.specs.declared.registers.Registers.{Registers}
use Rattle.ns_machine_frames.specs.Standing.{Stood, Runs, Loops, pushed}
use Rattle.ns_machine_frames.specs.Stack.{stood}
use Rattle.ns_machine_frames.specs.View.{site_shown, leaving_shown, activation_shown, frames_shown}
use Rattle.ns_machine_core.specs.declared.state.Core.{Core}
use Rattle.ns_machine_core.specs.declared.state.Next.{Next}
use Rattle.ns_machine_core.specs.Shown.{phase_shown, progress_in, shown}
use Rattle.ns_machine_core.specs.Framed.{AreFramed}
use Rattle.ns_machine_core.specs.Standing.{AreStanding, HasStandingFrames, StandAt, KeepsRooms, KeepsRightIn}
use Rattle.ns_moves.specs.Bodies.{height_in}

-- what an instruction does in a run whose topmost frame stands behind it
abbrev pub done : CodeProgram → List SourcePlace → Phase → Instr → Option SourcePlace → List Stood → Progress → State
done code places phase instr place [] progress = Stuck progress
done code places phase instr place (Loops frame ∷ stood) progress = Stuck progress
done code places phase instr place (Runs frame locals stack ∷ stood) progress =
    executed code phase instr place (leaving_shown frame.leaving frame.activation) (activation_shown places frame.activation) locals
    (steps_from code frame.activation.body frame.next) stack (frames_shown code places stood) progress

-- An instruction, behind which a body stands, finds the operands that it takes, room for those that it leaves, its target, and
-- what it asks of the world, which is lawful.
pub record FindsWhatItTakes (code : CodeProgram) (places : List SourcePlace) (instr : Instr) (frame : RunningFrame)
    (locals stack : List Value) (progress : Progress) : Type 0 where
  pub enough : takes instr ≤ length stack
  pub room : goes_on instr ≡ true → length stack - takes instr + leaves instr ≤ height_in code frame.activation.body
  pub inside : (1 ≤ frame.next) × (frame.next ≤ length (steps_of code frame.activation.body))
  pub lands : (to : ℕ) → target instr ≡ Some to → to < length (steps_of code frame.activation.body)
  pub asks : InstrAsks code instr (leaving_shown frame.leaving frame.activation) (activation_shown places frame.activation) progress
  pub uses : ForSome (slice_get code.bodies frame.activation.body) (λ (body : BodyCode). IsUsable code frame.activation.body body (frame.next - 1) instr)
  pub fits : FitsActivation progress.world.cells code (activation_shown places frame.activation)
  pub object : FitsObject progress.world.cells code (activation_shown places frame.activation)
  pub environment : FitsEnvironment (frame.activation.body + 1) progress.world.cells code (environment_body code frame.activation.body) frame.activation.env
  pub beside : length locals ≡ locals_beside code frame.activation.body
  pub live_locals : All (IsLiveValue progress.world.cells code) locals
  pub live : All (IsLiveValue progress.world.cells code) stack
  pub named : FitsSite code (site_shown places frame.activation.site)
  pub sound : IsSound code
  pub lawful : IsLawful progress.world code
  pub begun : progress.begun ≤ progress.world.steps

-- The topmost of the frames is a body's, in which the instruction finds this.
abbrev pub Finds : CodeProgram → List SourcePlace → Instr → List Stood → Progress → Type 0
Finds code places instr [] progress = ⊥
Finds code places instr (Loops frame ∷ stood) progress = ⊥
Finds code places instr (Runs frame locals stack ∷ stood) progress = FindsWhatItTakes code places instr frame locals stack progress

-- A machine that stands behind an instruction can do it; the lookups that it keeps are right, and answers have room.
pub record CanDo (code : CodeProgram) (core : Core) (at : Registers) (instr : Instr) : Type 0 where
  pub stands : HasStandingFrames code core at
  pub kept : KeepsRightIn code core core
  pub finds : Finds code core.places instr (stood core.stack at) (progress_in core)
  pub framed : AreFramed code (stood core.stack at) (progress_in core)

-- The topmost frame is a body's.
abbrev pub IsRunning : List Frame → Type 0
IsRunning [] = ⊥
IsRunning (Running frame ∷ frames) = Unit {0}
IsRunning (Looping frame ∷ frames) = ⊥

-- what runs in it
abbrev pub running_of : KeptActivation → RunningCode
running_of activation =
    record { me = activation.me; holder = activation.holder; body = activation.body; home = activation.home; env = activation.env }

-- A value was pushed, and nothing else has changed.
pub record Pushed (code : CodeProgram) (old : Core) (at : Registers) (value : Value) (new : Core) (to : Registers) : Type 0 where
  pub stood : stood new.stack to ≡ pushed value (stood old.stack at)
  pub stands : AreStanding code new.stack to
  pub frames : new.stack.frames ≡ old.stack.frames
  pub run : new.run ≡ old.run
  pub phase : new.phase ≡ old.phase
  pub stays : KeepsRooms old new

-- What an action has given comes to the topmost frame, which is a body's, or a fault at the site ends the run.
pub record IsSettled (code : CodeProgram) (old : Core) (at : Registers) (site : KeptSite) (answer : Result Value Fault) (new : Core) (next : Next)
    : Type 0 where
  pub state : shown code new next ≡
      settled code (phase_shown old.phase) (answer_shown (site_shown old.places site) answer (progress_in old))
      (frames_shown code old.places (stood old.stack at))
  pub stand : StandAt code new next
  pub run : new.run ≡ old.run
  pub stays : KeepsRooms old new

-- The instruction is done: the state is the one that it leads to, and the machine's memory stays as it should.
pub record IsDone (code : CodeProgram) (instr : Instr) (place : Option SourcePlace) (old : Core) (at : Registers) (new : Core) (next : Next) : Type 0 where
  pub state : shown code new next ≡ done code old.places (phase_shown old.phase) instr place (stood old.stack at) (progress_in old)
  pub stand : StandAt code new next
  pub stays : KeepsRooms old new
  pub kept : KeepsRightIn code old new
