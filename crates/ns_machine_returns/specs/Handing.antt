-- Values that come to what stands on top, or to what comes after the last frame.
use Rattle.std.specs.Prelude.{◌≡◌, Result, Ok, Err}
use Rattle.ns_code.specs.declared.program.CodeProgram.{CodeProgram}
use Rattle.ns_world.specs.declared.value.Value.{Value}
use Rattle.ns_world.specs.declared.ending.Fault.{Fault}
use Rattle.ns_world.specs.Heap.{Heap}
use Rattle.ns_world.specs.Lawful.{IsLawful, IsLiveValue}
use Rattle.ns_moves.specs.Returns.{delivered}
use Rattle.ns_machine_frames.specs.declared.registers.Registers.{Registers}
use Rattle.ns_machine_frames.specs.Stack.{stood}
use Rattle.ns_machine_frames.specs.View.{frames_shown}
use Rattle.ns_machine_core.specs.declared.state.Core.{Core}
use Rattle.ns_machine_core.specs.declared.state.Next.{Next}
use Rattle.ns_machine_core.specs.Shown.{phase_shown, progress_in, shown}
use Rattle.ns_machine_core.specs.Standing.{HasStandingFrames, StandAt, KeepsRooms}
use Rattle.ns_machine_core.specs.Framed.{HasRoomOnTop}

-- Frames stand in a lawful world, and a body on top has room for a value.
pub record CanTake (code : CodeProgram) (core : Core) (at : Registers) : Type 0 where
  pub stands : HasStandingFrames code core at
  pub room : HasRoomOnTop code (stood core.stack at)
  pub lawful : IsLawful core.run.world.world code

-- what is given is live
abbrev pub GivesLive : Heap → CodeProgram → Result Value Fault → Type 0
GivesLive heap code (Ok value) = IsLiveValue heap code value
GivesLive heap code (Err fault) = Unit {0}

-- A value has come to what stood on top, or to what comes after the last frame.
pub record IsHanded (code : CodeProgram) (old : Core) (at : Registers) (value : Value) (new : Core) (next : Next) : Type 0 where
  pub state : shown code new next ≡ delivered code (phase_shown old.phase) value (frames_shown code old.places (stood old.stack at)) (progress_in old)
  pub stand : StandAt code new next
  pub run : new.run ≡ old.run
  pub stays : KeepsRooms old new
