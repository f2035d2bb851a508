-- The end of the body that runs.
use Rattle.std.specs.Prelude.{◌≡◌, ◌∷◌}
use Rattle.ns_code.specs.declared.program.CodeProgram.{CodeProgram}
use Rattle.ns_world.specs.declared.value.Value.{Value}
use Rattle.ns_world.specs.Lawful.{IsLawful, IsLiveValue}
use Rattle.ns_moves.specs.Returns.{delivered, returned}
use Rattle.ns_moves.specs.WorldAsks.{CanLeave}
use Rattle.ns_machine_frames.specs.declared.frame.Frame.TheVariants.{Running}
use Rattle.ns_machine_frames.specs.declared.frame.RunningFrame.{RunningFrame}
use Rattle.ns_machine_frames.specs.declared.registers.Registers.{Registers}
use Rattle.ns_machine_frames.specs.Standing.{below}
use Rattle.ns_machine_frames.specs.Stack.{stood}
use Rattle.ns_machine_frames.specs.View.{leaving_shown, activation_shown, frames_shown}
use Rattle.ns_machine_core.specs.declared.state.Core.{Core}
use Rattle.ns_machine_core.specs.declared.state.Next.{Next}
use Rattle.ns_machine_core.specs.Shown.{phase_shown, progress_in, shown}
use Rattle.ns_machine_core.specs.Standing.{HasStandingFrames, StandAt, KeepsRooms, KeepsRightIn}
use Rattle.ns_machine_core.specs.Framed.{AreFramed}
use Rattle.ns_moves.specs.Control.{frame_left}

-- The frame of a body, on top, can end with a live value.
pub record CanEnd (code : CodeProgram) (core : Core) (at : Registers) (frame : RunningFrame) (value : Value) : Type 0 where
  pub stands : HasStandingFrames code core at
  pub top : core.stack.frames.items ≡ Running frame ∷ below core.stack.frames.items
  pub framed : AreFramed code (stood core.stack at) (progress_in core)
  pub lawful : IsLawful core.run.world.world code
  pub leaves : CanLeave core.run.world.world.cells code (leaving_shown frame.leaving frame.activation)
  pub live : IsLiveValue core.run.world.world.cells code value
  pub kept : KeepsRightIn code core core

-- The frame has ended with the value.
pub record IsEnded (code : CodeProgram) (old : Core) (at : Registers) (frame : RunningFrame) (value : Value) (new : Core) (next : Next) : Type 0 where
  pub state : shown code new next ≡
      returned code (phase_shown old.phase) (leaving_shown frame.leaving frame.activation) (activation_shown old.places frame.activation) value
      (frames_shown code old.places (below (stood old.stack at))) (progress_in old)
  pub stand : StandAt code new next
  pub stays : KeepsRooms old new
  pub kept : KeepsRightIn code old new

-- The frame was given back, and the value is its answer.
pub record FrameIsAnswered (code : CodeProgram) (old : Core) (at : Registers) (value : Value) (new : Core) (next : Next) : Type 0 where
  pub state : shown code new next ≡
      delivered code (phase_shown old.phase) value (frames_shown code old.places (below (stood old.stack at))) (frame_left (progress_in old))
  pub stand : StandAt code new next
  pub stays : KeepsRooms old new
  pub kept : KeepsRightIn code old new
