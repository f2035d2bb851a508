-- The operands that an instruction takes are there.
use Rattle.std.proofs.Common.{◌≤◌, List, [], ◌∷◌, length}
use Rattle.ns_code.specs.declared.program.CodeProgram.{CodeProgram}
use Rattle.ns_code.specs.declared.instruction.Instr.{Instr}
use Rattle.ns_code.specs.Table.{takes}
use Rattle.ns_machine_frames.specs.declared.registers.Registers.{Registers}
use Rattle.ns_machine_frames.specs.Standing.{Stood, Runs, Loops, operands_in}
use Rattle.ns_machine_frames.specs.Stack.{stood}
use Rattle.ns_machine_core.specs.declared.state.Core.{Core}
use Rattle.ns_machine_core.specs.Shown.{progress_in}
use Rattle.ns_machine_core.specs.Doing.{Finds, CanDo}

-- the operands that an instruction takes are there
pub some_operand : (code : CodeProgram) (core : Core) (at : Registers) (instr : Instr) → CanDo code core at instr →
    takes instr ≤ length (operands_in (stood core.stack at))
some_operand code core at instr can = by_stood (stood core.stack at) can.finds
  where
    by_stood : (s : List Stood) → Finds code core.places instr s (progress_in core) → takes instr ≤ length (operands_in s)
    by_stood [] finds = absurd finds
    by_stood (Loops frame ∷ s) finds = absurd finds
    by_stood (Runs frame locals stack ∷ s) finds = finds.enough
