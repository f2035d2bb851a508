-- The next step of a run that goes on with a body.
use Rattle.std.specs.Prelude.{◌≡◌, ◌<◌, ℕ, ◌+◌, ◌∷◌, length, slice_get, Some, IsSome}
use Rattle.std.specs.Option.{ForSome}
use Rattle.ns_base.specs.declared.place.Place.{Place as SourcePlace}
use Rattle.ns_code.specs.declared.program.CodeProgram.{CodeProgram}
use Rattle.ns_facets.specs.declared.row.Grants.{Grants}
use Rattle.ns_moves.specs.Steps.{PlacedInstr, steps_of}
use Rattle.ns_moves.specs.Move.{move}
use Rattle.ns_moves.specs.Valid.{Valid}
use Rattle.ns_machine_frames.specs.declared.frame.Frame.TheVariants.{Running}
use Rattle.ns_machine_frames.specs.declared.frame.RunningFrame.{RunningFrame}
use Rattle.ns_machine_frames.specs.declared.registers.Registers.{Registers}
use Rattle.ns_machine_frames.specs.Standing.{below}
use Rattle.ns_machine_frames.specs.Stack.{stood}
use Rattle.ns_machine_core.specs.declared.state.Core.{Core}
use Rattle.ns_machine_core.specs.declared.state.Next.TheVariants.{On}
use Rattle.ns_machine_core.specs.Shown.{phase_shown, progress_in, shown}
use Rattle.ns_machine_core.specs.Doing.{done, Finds}

-- the registers behind the next instruction
abbrev pub behind : Registers → Registers
behind at = record at { next = at.next + 1 }

-- The step is the next one: behind it its instruction finds what it asks for, and what it does is the move. Its place is in a file of the code.
pub record IsNextStep (code : CodeProgram) (core : Core) (at : Registers) (step : PlacedInstr) : Type 0 where
  pub finds : Finds code core.places step.0 (stood core.stack (behind at)) (progress_in core)
  pub file : ForSome step.1 (λ (place : SourcePlace). place.file < length code.files)
  pub moves : move code (shown code core (On at))
      ≡ done code core.places (phase_shown core.phase) step.0 step.1 (stood core.stack (behind at)) (progress_in core)

-- A valid run that goes on with a body has a next step there.
pub record HasNextStep (code : CodeProgram) (core : Core) (at : Registers) (body : ℕ) : Type 0 where
  pub there : IsSome (slice_get (steps_of code body) at.next)
  pub is : (step : PlacedInstr) → slice_get (steps_of code body) at.next ≡ Some step → IsNextStep code core at step

abbrev pub ValidHasNextStep : CodeProgram → Grants → Type 0
ValidHasNextStep code grants =
    (core : Core) (at : Registers) (running : RunningFrame) → Valid code grants (shown code core (On at))
    → core.stack.frames.items ≡ Running running ∷ below core.stack.frames.items → HasNextStep code core at running.activation.body
