-- Two moves made as one: memory never holds the state between them, from which the second charges nothing.
use Rattle.std.specs.Prelude.{◌≡◌, false, Option}
use Rattle.ns_base.specs.declared.place.Place.{Place as SourcePlace}
use Rattle.ns_code.specs.declared.program.CodeProgram.{CodeProgram}
use Rattle.ns_code.specs.declared.instruction.Instr.{Instr}
use Rattle.ns_facets.specs.declared.row.Grants.{Grants}
use Rattle.ns_moves.specs.State.{State}
use Rattle.ns_moves.specs.Steps.{PlacedInstr}
use Rattle.ns_moves.specs.Move.{move}
use Rattle.ns_moves.specs.Turn.{is_still}
use Rattle.ns_moves.specs.Charging.{will_charge}
use Rattle.ns_machine_frames.specs.declared.registers.Registers.{Registers}
use Rattle.ns_machine_frames.specs.Stack.{stood}
use Rattle.ns_machine_core.specs.declared.state.Core.{Core}
use Rattle.ns_machine_core.specs.declared.state.Next.{Next}
use Rattle.ns_machine_core.specs.declared.state.Next.TheVariants.{On}
use Rattle.ns_machine_core.specs.Doing.{done}
use Rattle.ns_machine_core.specs.Moving.{behind, IsNextStep}
use Rattle.ns_machine_core.specs.Ready.{MachineIsReady}
use Rattle.ns_machine_core.specs.Shown.{phase_shown, progress_in, shown}
use Rattle.ns_machine_core.specs.Standing.{StandAt, KeepsRooms, KeepsRightIn}

-- The state that it shows is the one to which a state between moves, which goes on and charges nothing by that; the memory is as
-- it was.
pub record Passes (code : CodeProgram) (between : State) (old new : Core) (next : Next) : Type 0 where
  pub state : shown code new next ≡ move code between
  pub goes : is_still between ≡ false
  pub free : will_charge code between ≡ false
  pub stand : StandAt code new next
  pub stays : KeepsRooms old new
  pub kept : KeepsRightIn code old new

-- The instruction is done, and the move after it.
abbrev pub DoesTwice : CodeProgram → Instr → Option SourcePlace → Core → Registers → Core → Next → Type 0
DoesTwice code instr place old at new next =
    Passes code (done code old.places (phase_shown old.phase) instr place (stood old.stack at) (progress_in old)) old new next

-- The next two moves are made.
abbrev pub MovesTwice : CodeProgram → Core → Next → Core → Next → Type 0
MovesTwice code old from new next = Passes code (move code (shown code old from)) old new next

-- Two moves leave the machine ready.
abbrev pub PassingKeepsReady : CodeProgram → Grants → Type 0
PassingKeepsReady code grants =
    (old new : Core) (from next : Next) → MachineIsReady code grants old from → MovesTwice code old from new next → MachineIsReady code grants new next

-- An instruction that is done behind the next step, with the move after it, is two moves.
abbrev pub DoneIsPassed : CodeProgram → Type 0
DoneIsPassed code =
    (old new : Core) (at : Registers) (next : Next) (step : PlacedInstr) → IsNextStep code old at step
    → DoesTwice code step.0 step.1 old (behind at) new next → MovesTwice code old (On at) new next
