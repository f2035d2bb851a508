-- Sends to Integers, by the quick way: the body that runs goes on, with one step charged. Where one isn't made nothing has changed,
-- since nothing is looked up.
use Rattle.std.specs.Prelude.{◌≡◌, ℕ, Option, Some, None}
use Rattle.ns_base.specs.declared.place.Place.{Place as SourcePlace}
use Rattle.ns_base.specs.declared.selector.Sel.{Sel}
use Rattle.ns_code.specs.declared.program.CodeProgram.{CodeProgram}
use Rattle.ns_code.specs.declared.instruction.Instr.{Instr}
use Rattle.ns_world.specs.declared.value.Value.{Value}
use Rattle.ns_find.specs.declared.found.Sending.{Sending}
use Rattle.ns_moves.specs.Control.{Activation}
use Rattle.ns_moves.specs.Sends.{To}
use Rattle.ns_machine_frames.specs.declared.registers.Registers.{Registers}
use Rattle.ns_machine_core.specs.declared.state.Core.{Core}
use Rattle.ns_machine_core.specs.declared.state.Next.TheVariants.{On}
use Rattle.ns_machine_core.specs.Straight.{StaysOnTop, GoesStraight}
use Rattle.ns_machine_sends.specs.declared.sent.Sent.{Sent}
use Rattle.ns_machine_sends.specs.Operands.{SendsToTop}
use Rattle.ns_machine_sends.specs.Sending.{sent_at, Sends}

-- A send to a value has led straight on to those registers, with one step charged; or nothing has changed.
abbrev pub SendsOrNothing : CodeProgram → Core → Registers → Sent → Value → Sending → Core → Option Registers → Type 0
SendsOrNothing code old at sent receiver kind new (Some to) =
    ((activation : Activation) → Sends code old at sent.floor (sent_at code old at sent activation (To receiver kind)) new (On to)) × StaysOnTop 1 old new
SendsOrNothing code old at sent receiver kind new None = new ≡ old

-- The same of operands that are sent to the receiver below them.
abbrev pub ToTopOrNothing : CodeProgram → Core → Registers → Sel → ℕ → ℕ → Sending → Core → Option Registers → Type 0
ToTopOrNothing code old at sel argc place kind new (Some to) = SendsToTop code old at sel argc place kind new (On to) × StaysOnTop 1 old new
ToTopOrNothing code old at sel argc place kind new None = new ≡ old

-- The instruction is done, and the body that runs goes straight on at those registers, with one step charged; or nothing has changed.
abbrev pub DoesOrNothing : CodeProgram → Instr → Option SourcePlace → Core → Registers → Core → Option Registers → Type 0
DoesOrNothing code instr place old at new (Some to) = GoesStraight code 1 instr place old at new to
DoesOrNothing code instr place old at new None = new ≡ old
