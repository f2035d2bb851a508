-- Sends that give a value at once, by the quick way.
use Rattle.std.specs.Prelude.{ℕ, Option, Some, None}
use Rattle.ns_base.specs.declared.selector.Sel.{Sel}
use Rattle.ns_code.specs.declared.program.CodeProgram.{CodeProgram}
use Rattle.ns_world.specs.declared.value.Value.{Value}
use Rattle.ns_find.specs.declared.found.Sending.{Sending}
use Rattle.ns_moves.specs.Control.{Activation}
use Rattle.ns_moves.specs.Sends.{To}
use Rattle.ns_machine_frames.specs.declared.registers.Registers.{Registers}
use Rattle.ns_machine_core.specs.declared.led.Led.{Led}
use Rattle.ns_machine_core.specs.declared.led.Led.TheVariants.{Straight, Charged, On as OnTop, Answered, Nowhere}
use Rattle.ns_machine_core.specs.declared.state.Core.{Core}
use Rattle.ns_machine_core.specs.declared.state.Next.TheVariants.{On}
use Rattle.ns_machine_core.specs.Straight.{StaysOnTop}
use Rattle.ns_machine_core.specs.Tried.{OnlyLookupsChanged}
use Rattle.ns_machine_sends.specs.declared.sent.Sent.{Sent}
use Rattle.ns_machine_sends.specs.Operands.{SendsToTop}
use Rattle.ns_machine_sends.specs.Sending.{sent_at, Sends}

-- A send to a value has led on with the topmost frame at those registers; or nothing is done.
abbrev pub SendsOrNot : CodeProgram → Core → Registers → Sent → Value → Sending → Core → Option Registers → Type 0
SendsOrNot code old at sent receiver kind new (Some to) =
    (activation : Activation) → Sends code old at sent.floor (sent_at code old at sent activation (To receiver kind)) new (On to)
SendsOrNot code old at sent receiver kind new None = OnlyLookupsChanged code old new

-- The same, and the body that runs stays on top, with so many steps charged.
abbrev pub SendsOnTop : ℕ → CodeProgram → Core → Registers → Sent → Value → Sending → Core → Registers → Type 0
SendsOnTop charged code old at sent receiver kind new to =
    ((activation : Activation) → Sends code old at sent.floor (sent_at code old at sent activation (To receiver kind)) new (On to))
    × StaysOnTop charged old new

-- It has led straight on to those registers, with one step charged; or nothing is done.
abbrev pub ChargesOrNot : CodeProgram → Core → Registers → Sent → Value → Sending → Core → Option Registers → Type 0
ChargesOrNot code old at sent receiver kind new (Some to) = SendsOnTop 1 code old at sent receiver kind new to
ChargesOrNot code old at sent receiver kind new None = OnlyLookupsChanged code old new

-- It has led there; or nothing is done.
abbrev pub SendLeads : CodeProgram → Core → Registers → Sent → Value → Sending → Core → Led → Type 0
SendLeads code old at sent receiver kind new (Straight to) = SendsOnTop 0 code old at sent receiver kind new to
SendLeads code old at sent receiver kind new (Charged to) = SendsOnTop 1 code old at sent receiver kind new to
SendLeads code old at sent receiver kind new (OnTop to) =
    (activation : Activation) → Sends code old at sent.floor (sent_at code old at sent activation (To receiver kind)) new (On to)
SendLeads code old at sent receiver kind new (Answered to) = ⊥
SendLeads code old at sent receiver kind new Nowhere = OnlyLookupsChanged code old new

-- The same of operands that are sent to the receiver below them.
abbrev pub ToTopLeads : CodeProgram → Core → Registers → Sel → ℕ → ℕ → Sending → Core → Led → Type 0
ToTopLeads code old at sel argc place kind new (Straight to) = SendsToTop code old at sel argc place kind new (On to) × StaysOnTop 0 old new
ToTopLeads code old at sel argc place kind new (Charged to) = SendsToTop code old at sel argc place kind new (On to) × StaysOnTop 1 old new
ToTopLeads code old at sel argc place kind new (OnTop to) = SendsToTop code old at sel argc place kind new (On to)
ToTopLeads code old at sel argc place kind new (Answered to) = ⊥
ToTopLeads code old at sel argc place kind new Nowhere = OnlyLookupsChanged code old new
