-- Sends that evaluate their receiver, by the quick way: the evaluation waits then.
use Rattle.std.specs.Prelude.{◌≡◌, ℕ, Option, Some, None}
use Rattle.ns_base.specs.declared.place.Place.{Place as SourcePlace}
use Rattle.ns_base.specs.declared.selector.Sel.{Sel}
use Rattle.ns_code.specs.declared.program.CodeProgram.{CodeProgram}
use Rattle.ns_code.specs.declared.instruction.Instr.{Instr}
use Rattle.ns_world.specs.declared.value.Value.{Value}
use Rattle.ns_find.specs.declared.found.Sending.{Sending}
use Rattle.ns_moves.specs.Control.{Activation}
use Rattle.ns_moves.specs.Sends.{To}
use Rattle.ns_machine_frames.specs.declared.registers.Registers.{Registers}
use Rattle.ns_machine_plan.specs.declared.packed.ValueSend.{ValueSend}
use Rattle.ns_machine_core.specs.declared.state.Core.{Core}
use Rattle.ns_machine_core.specs.declared.state.Next.{Next}
use Rattle.ns_machine_core.specs.Doing.{IsDone}
use Rattle.ns_machine_core.specs.Tried.{OnlyLookupsChanged}
use Rattle.ns_machine_sends.specs.declared.sent.Sent.{Sent}
use Rattle.ns_machine_sends.specs.Operands.{SendsToTop}
use Rattle.ns_machine_sends.specs.Sending.{sent_at, Sends}
use Rattle.ns_machine_quick.specs.Below.{receiver_below, sent_below}

-- A send to a value has led there; or nothing has changed.
abbrev pub GoesOrNothing : CodeProgram → Core → Registers → Sent → Value → Sending → Core → Option Next → Type 0
GoesOrNothing code old at sent receiver kind new (Some next) =
    (activation : Activation) → Sends code old at sent.floor (sent_at code old at sent activation (To receiver kind)) new next
GoesOrNothing code old at sent receiver kind new None = new ≡ old

-- It has led there; or nothing has changed but the lookups that are kept.
abbrev pub GoesOrNot : CodeProgram → Core → Registers → Sent → Value → Sending → Core → Option Next → Type 0
GoesOrNot code old at sent receiver kind new (Some next) =
    (activation : Activation) → Sends code old at sent.floor (sent_at code old at sent activation (To receiver kind)) new next
GoesOrNot code old at sent receiver kind new None = OnlyLookupsChanged code old new

-- The same of a send to the receiver below the arguments of a step,
abbrev pub BelowGoes : CodeProgram → Core → Registers → ValueSend → Core → Option Next → Type 0
BelowGoes code old at send new done = GoesOrNot code old at (sent_below old at send) (receiver_below old at send.argc) send.kind new done

-- of operands that are sent to the receiver below them,
abbrev pub ToTopGoes : CodeProgram → Core → Registers → Sel → ℕ → ℕ → Sending → Core → Option Next → Type 0
ToTopGoes code old at sel argc place kind new (Some next) = SendsToTop code old at sel argc place kind new next
ToTopGoes code old at sel argc place kind new None = OnlyLookupsChanged code old new

-- and of an instruction.
abbrev pub DoesOrNot : CodeProgram → Instr → Option SourcePlace → Core → Registers → Core → Option Next → Type 0
DoesOrNot code instr place old at new (Some next) = IsDone code instr place old at new next
DoesOrNot code instr place old at new None = OnlyLookupsChanged code old new
