-- What holds of a machine at every moment of a run.
use Rattle.std.specs.Prelude.{◌≡◌}
use Rattle.ns_code.specs.declared.program.CodeProgram.{CodeProgram}
use Rattle.ns_facets.specs.declared.row.Grants.{Grants}
use Rattle.ns_machine_frames.specs.declared.registers.Registers.{Registers}
use Rattle.ns_moves.specs.Steps.{PlacedInstr}
use Rattle.ns_moves.specs.Move.{move}
use Rattle.ns_moves.specs.Valid.{Valid}
use Rattle.ns_machine_core.specs.declared.state.Core.{Core}
use Rattle.ns_machine_core.specs.declared.state.Next.{Next}
use Rattle.ns_machine_core.specs.declared.state.Next.TheVariants.{On}
use Rattle.ns_machine_core.specs.Shown.{shown}
use Rattle.ns_machine_core.specs.Standing.{HasRooms, StandAt, KeepsRooms, KeepsRightIn}
use Rattle.ns_machine_core.specs.Doing.{CanDo, IsDone}
use Rattle.ns_machine_core.specs.Moving.{behind, IsNextStep}

-- The state that it shows is one that a run of the code reaches, memory was taken for all that a run can need, the
-- frames stand in theirs, and the lookups that it keeps are right.
pub record MachineIsReady (code : CodeProgram) (grants : Grants) (core : Core) (next : Next) : Type 0 where
  pub valid : Valid code grants (shown code core next)
  pub rooms : HasRooms code core
  pub stand : StandAt code core next
  pub kept : KeepsRightIn code core core

-- A move of it: the state that it shows is the next one, and the memory is as it was.
pub record MakesMove (code : CodeProgram) (old : Core) (from : Next) (new : Core) (next : Next) : Type 0 where
  pub state : shown code new next ≡ move code (shown code old from)
  pub stand : StandAt code new next
  pub stays : KeepsRooms old new
  pub kept : KeepsRightIn code old new

-- Each move leaves it so.
abbrev pub MovesKeepReady : CodeProgram → Grants → Type 0
MovesKeepReady code grants =
    (old new : Core) (from next : Next) → MachineIsReady code grants old from → MakesMove code old from new next → MachineIsReady code grants new next

-- Behind its next step the machine can do the instruction.
abbrev pub StepsCanBeDone : CodeProgram → Grants → Type 0
StepsCanBeDone code grants =
    (core : Core) (at : Registers) (step : PlacedInstr) → MachineIsReady code grants core (On at) → IsNextStep code core at step → CanDo code core (behind at) step.0

-- An instruction that is done behind the next step is a move.
abbrev pub DoneIsMoved : CodeProgram → Type 0
DoneIsMoved code =
    (old new : Core) (at : Registers) (next : Next) (step : PlacedInstr) → IsNextStep code old at step → IsDone code step.0 step.1 old (behind at) new next
    → MakesMove code old (On at) new next
