-- An action of a method of the kernel that is topmost.
use Rattle.std.specs.Prelude.{◌≡◌, ◌∷◌, List, [], Option}
use Rattle.ns_code.specs.declared.program.CodeProgram.{CodeProgram}
use Rattle.ns_facets.specs.declared.row.Grants.{Grants}
use Rattle.ns_world.specs.declared.value.Value.{Value}
use Rattle.ns_world.specs.Heap.{Heap}
use Rattle.ns_world.specs.Lawful.{IsLawful}
use Rattle.ns_kcode.specs.declared.state.KState.{KState}
use Rattle.ns_moves.specs.Blocks.{listed, method_next}
use Rattle.ns_moves.specs.Lawful.{LiveState}
use Rattle.ns_moves.specs.State.{Pends, Evaluating}
use Rattle.ns_moves.specs.declared.methods.Waited.{Waited}
use Rattle.ns_moves.specs.Room.{SameRest}
use Rattle.ns_moves.specs.StatedAnswers.{WaitsAs}
use Rattle.ns_machine_frames.specs.declared.frame.Frame.{Frame}
use Rattle.ns_machine_frames.specs.declared.frame.Frame.TheVariants.{Running, Looping}
use Rattle.ns_machine_frames.specs.declared.frame.LoopingFrame.{LoopingFrame}
use Rattle.ns_machine_frames.specs.declared.frame.Pending.TheVariants as pending
use Rattle.ns_machine_frames.specs.declared.registers.Registers.{Registers}
use Rattle.ns_machine_frames.specs.Leaving.{turned}
use Rattle.ns_machine_frames.specs.Standing.{below}
use Rattle.ns_machine_frames.specs.Stack.{stood}
use Rattle.ns_machine_frames.specs.View.{site_shown, frames_shown}
use Rattle.ns_machine_core.specs.declared.state.Core.{Core}
use Rattle.ns_machine_core.specs.declared.state.Next.{Next}
use Rattle.ns_machine_core.specs.declared.state.Next.TheVariants.{On}
use Rattle.ns_machine_core.specs.Shown.{phase_shown, progress_in, shown}
use Rattle.ns_machine_core.specs.Standing.{HasStandingFrames, StandAt, KeepsRooms, KeepsRightIn}
use Rattle.ns_machine_core.specs.Framed.{AreFramed}
use Rattle.ns_machine_core.specs.Ready.{MachineIsReady}
use Rattle.ns_machine_core.specs.laws.Worlds.{in_other}

-- The topmost frame is that of a method of the kernel, whose values are live.
abbrev pub IsActing : Heap → CodeProgram → List Frame → Type 0
IsActing heap code [] = ⊥
IsActing heap code (Running frame ∷ frames) = ⊥
IsActing heap code (Looping frame ∷ frames) = LiveState heap code frame.state

-- The topmost frame is that of a method of the kernel.
abbrev pub IsLooping : List Frame → Type 0
IsLooping [] = ⊥
IsLooping (Running frame ∷ frames) = ⊥
IsLooping (Looping frame ∷ frames) = Unit {0}

-- The topmost frame is that of a method of the kernel, with the site and the floor of this one.
abbrev pub IsTopmost : LoopingFrame → List Frame → Type 0
IsTopmost looping [] = ⊥
IsTopmost looping (Running frame ∷ frames) = ⊥
IsTopmost looping (Looping frame ∷ frames) = (frame.site ≡ looping.site) × (frame.floor ≡ looping.floor)

-- A method of the kernel, which is topmost, can do its next action.
pub record CanAct (code : CodeProgram) (core : Core) (at : Registers) : Type 0 where
  pub stands : HasStandingFrames code core at
  pub framed : AreFramed code (stood core.stack at) (progress_in core)
  pub acting : IsActing core.run.world.world.cells code core.stack.frames.items
  pub lawful : IsLawful core.run.world.world code
  pub kept : KeepsRightIn code core core

-- So it can at every moment of a run at which it is topmost.
abbrev pub ReadyCanAct : CodeProgram → Grants → Type 0
ReadyCanAct code grants =
    (core : Core) (at : Registers) (looping : LoopingFrame) → MachineIsReady code grants core (On at)
    → core.stack.frames.items ≡ Looping looping ∷ below core.stack.frames.items → CanAct code core at

-- The method of the kernel that is topmost was asked what it does next: nothing but the world has changed, in which a step is
-- charged where a turn begins.
pub record IsAsked (code : CodeProgram) (old : Core) (at : Registers) (looping : LoopingFrame) (new : Core) (waited : Waited) : Type 0 where
  pub can : CanAct code old at
  pub top : old.stack.frames.items ≡ Looping looping ∷ below old.stack.frames.items
  pub same : new ≡ in_other old new.run.world
  pub rest : SameRest old.run.world new.run.world
  pub is : WaitsAs waited old.run.world new.run.world (method_next looping.method looping.state)

-- a machine in which the evaluation of a block waits, on the values from the floor of a method of the kernel on
abbrev pub awaiting : LoopingFrame → Value → Core → Core
awaiting looping block core = record core { waiting = pending.Evaluating block looping.site looping.floor looping.floor }

-- The evaluation of a block waits, for which the topmost method of the kernel waits in a state.
pub record Awaits (code : CodeProgram) (old : Core) (at : Registers) (looping : LoopingFrame) (block : Value) (argument : Option Value) (state : KState)
    (new : Core) (next : Next) : Type 0 where
  pub is : shown code new next ≡
      Pends (phase_shown old.phase) (Evaluating block (listed argument) (site_shown old.places looping.site))
      (frames_shown code old.places (turned state (stood old.stack at))) (progress_in old)
  pub stand : StandAt code new next
  pub run : new.run ≡ old.run
  pub stays : KeepsRooms old new
