-- Sends to a receiver on the operands: the instructions.
use Rattle.std.proofs.Common.{ℕ, slice_get}
use Rattle.ns_base.specs.declared.selector.Sel.{Sel}
use Rattle.ns_code.specs.declared.program.CodeProgram.{CodeProgram}
use Rattle.ns_code.specs.declared.instruction.Instr.TheVariants as instr
use Rattle.ns_find.specs.declared.found.Sending.TheVariants.{Plain, Inner}
use Rattle.ns_moves.specs.State.{State}
use Rattle.ns_machine_frames.specs.Stated.{ComeOffAgain}
use Rattle.ns_machine_frames.specs.declared.registers.Registers.{Registers}
use Rattle.ns_machine_core.specs.declared.state.Core.{Core}
use Rattle.ns_machine_core.specs.declared.state.Next.{Next}
use Rattle.ns_machine_core.specs.Doing.{CanDo, IsDone}
use Rattle.ns_machine_sends.specs.Operands.{SendsToTop}
use Rattle.ns_machine_sends.specs.laws.Received.{kind_does}

module _ (taken : (missing : State) → ComeOffAgain missing) (code : CodeProgram) (old new : Core) (at : Registers) (sel : Sel) (argc place : ℕ) where
  pub send_does : (next : Next) → CanDo code old at (instr.Send sel argc) → SendsToTop code old at sel argc place Plain new next
      → IsDone code (instr.Send sel argc) (slice_get old.places place) old at new next
  send_does next can is = kind_does taken code old new at sel argc place Plain next can is

  pub inner_does : (next : Next) → CanDo code old at (instr.SendInner sel argc) → SendsToTop code old at sel argc place Inner new next
      → IsDone code (instr.SendInner sel argc) (slice_get old.places place) old at new next
  inner_does next can is = kind_does taken code old new at sel argc place Inner next can is
