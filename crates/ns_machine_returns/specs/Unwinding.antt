-- Frames that are given back down to a home.
use Rattle.std.specs.Prelude.{◌≡◌, ℕ, Option, Some, None}
use Rattle.ns_code.specs.declared.program.CodeProgram.{CodeProgram}
use Rattle.ns_world.specs.declared.value.Value.{Value}
use Rattle.ns_world.specs.Lawful.{IsLawful, IsLiveValue}
use Rattle.ns_moves.specs.Returns.{unwound}
use Rattle.ns_machine_frames.specs.declared.registers.Registers.{Registers}
use Rattle.ns_machine_frames.specs.Leaving.{frames_to}
use Rattle.ns_machine_frames.specs.Stack.{stood}
use Rattle.ns_machine_frames.specs.View.{frames_shown}
use Rattle.ns_machine_core.specs.declared.state.Core.{Core}
use Rattle.ns_machine_core.specs.declared.state.Next.{Next}
use Rattle.ns_machine_core.specs.declared.state.Next.TheVariants.{On}
use Rattle.ns_machine_core.specs.Shown.{phase_shown, progress_in, shown}
use Rattle.ns_machine_core.specs.Standing.{HasStandingFrames, StandAt, KeepsRooms, KeepsRightIn}
use Rattle.ns_machine_core.specs.Framed.{AreFramed}
use Rattle.ns_machine_core.specs.Tried.{OnlyLookupsChanged}

-- So many frames stand down to a home, with it, and it can be given a live value.
pub record CanUnwind (code : CodeProgram) (core : Core) (at : Registers) (home count : ℕ) (value : Value) : Type 0 where
  pub stands : HasStandingFrames code core at
  pub framed : AreFramed code (stood core.stack at) (progress_in core)
  pub home_is : frames_to home core.stack.frames.items ≡ Some count
  pub lawful : IsLawful core.run.world.world code
  pub live : IsLiveValue core.run.world.world.cells code value
  pub kept : KeepsRightIn code core core

-- They were given back, and the value is the answer of the home.
pub record IsUnwound (code : CodeProgram) (old : Core) (at : Registers) (home : ℕ) (value : Value) (new : Core) (next : Next) : Type 0 where
  pub state : shown code new next ≡
      unwound code (phase_shown old.phase) home value (frames_shown code old.places (stood old.stack at)) (progress_in old)
  pub stand : StandAt code new next
  pub stays : KeepsRooms old new
  pub kept : KeepsRightIn code old new

-- They were given back, and the frame below the home goes on with the value at those registers; or nothing is done.
abbrev pub UnwindsOrNot : CodeProgram → Core → Registers → ℕ → Value → Core → Option Registers → Type 0
UnwindsOrNot code old at home value new (Some to) = IsUnwound code old at home value new (On to)
UnwindsOrNot code old at home value new None = OnlyLookupsChanged code old new
