-- Sends whose arguments are operands of the body that runs.
use Rattle.std.specs.Prelude.{◌≡◌, ◌-◌, ℕ, List, length, drop, slice_get, true}
use Rattle.ns_base.specs.declared.selector.Sel.{Sel}
use Rattle.ns_code.specs.declared.program.CodeProgram.{CodeProgram}
use Rattle.ns_code.specs.declared.instruction.Instr.{Instr}
use Rattle.ns_code.specs.Table.{takes, leaves, goes_on}
use Rattle.ns_world.specs.declared.value.Value.{Value}
use Rattle.ns_find.specs.declared.found.Sending.{Sending}
use Rattle.ns_moves.specs.Control.{Activation}
use Rattle.ns_moves.specs.Sends.{To, sent}
use Rattle.ns_moves.specs.Arrivals.{arrived}
use Rattle.ns_moves.specs.WorldAsks.{SelectorTakes}
use Rattle.ns_machine_frames.specs.declared.registers.Registers.{Registers}
use Rattle.ns_machine_frames.specs.Standing.{Stood, pushed, pushed_all}
use Rattle.ns_machine_frames.specs.Stack.{in_use, stood}
use Rattle.ns_machine_frames.specs.View.{frames_shown}
use Rattle.ns_machine_core.specs.declared.state.Core.{Core}
use Rattle.ns_machine_core.specs.declared.state.Next.{Next}
use Rattle.ns_machine_core.specs.Shown.{phase_shown, progress_in, shown}
use Rattle.ns_machine_core.specs.Standing.{StandAt, KeepsRooms, KeepsRightIn}
use Rattle.ns_machine_core.specs.Doing.{CanDo}

-- the topmost operands, the deepest first
abbrev pub topmost : Core → Registers → ℕ → List Value
topmost core at count = drop (at.top - count) (in_use core.stack at)

-- An instruction can be done that takes so many operands and leaves one, and the selector of a send takes so many arguments.
pub record SendsOperands (code : CodeProgram) (core : Core) (at : Registers) (sel : Sel) (argc taken : ℕ) : Type 0 where
  pub instr : Instr
  pub can : CanDo code core at instr
  pub takes_is : takes instr ≡ taken
  pub leaves_is : leaves instr ≡ 1
  pub on : goes_on instr ≡ true
  pub fits : SelectorTakes code sel argc

-- The operands were sent to the receiver below them, whose place comes by its number, as by any code.
pub record SendsToTop (code : CodeProgram) (old : Core) (at : Registers) (sel : Sel) (argc place : ℕ) (kind : Sending) (new : Core) (next : Next) : Type 0 where
  pub receiver : Value
  pub under : List Stood
  pub is : stood old.stack at ≡ pushed_all (topmost old at argc) (pushed receiver under)
  pub many : length (topmost old at argc) ≡ argc
  pub state : (activation : Activation) → shown code new next ≡
      arrived code (phase_shown old.phase) (sent code activation (To receiver kind) sel (topmost old at argc) (slice_get old.places place) (progress_in old))
      (frames_shown code old.places under)
  pub stand : StandAt code new next
  pub stays : KeepsRooms old new
  pub kept : KeepsRightIn code old new
