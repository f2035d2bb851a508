-- Sends that find a method of the kernel which evaluates blocks, by the quick way.
use Rattle.std.specs.Prelude.{◌≡◌, ◌<◌, Bool, true, false, Option, Some, None}
use Rattle.ns_code.specs.declared.program.CodeProgram.{CodeProgram}
use Rattle.ns_world.specs.declared.value.Value.{Value}
use Rattle.ns_find.specs.declared.found.Sending.{Sending}
use Rattle.ns_world.specs.declared.kernel_parts.KMethod.{KMethod}
use Rattle.ns_kdata.specs.Arguments.{argument}
use Rattle.ns_world.specs.declared.kernel_row.Row.{Row}
use Rattle.ns_world.specs.declared.kernel_row.Row.TheVariants.{Method}
use Rattle.ns_moves.specs.Blocks.{has_arguments}
use Rattle.ns_moves.specs.Control.{Activation}
use Rattle.ns_moves.specs.Sends.{To}
use Rattle.ns_machine_frames.specs.declared.registers.Registers.{Registers}
use Rattle.ns_machine_core.specs.declared.state.Core.{Core}
use Rattle.ns_machine_core.specs.declared.state.Next.TheVariants.{On}
use Rattle.ns_machine_sends.specs.declared.sent.Sent.{Sent}
use Rattle.ns_machine_sends.specs.Going.{arguments_in}
use Rattle.ns_machine_sends.specs.Sending.{sent_at, Sends}

-- whether a row is a method that evaluates blocks
abbrev pub loops : Row → Bool
loops (Method method) = true
loops other = false

-- The arguments of a send are those that a method asks for, and the limit on depth leaves room for its frame.
pub record CanLoop (core : Core) (at : Registers) (sent : Sent) (method : KMethod) : Type 0 where
  pub depth : core.run.world.world.depth < core.run.world.world.limits.depth
  pub asks : has_arguments core.run.world.world.cells method (argument (arguments_in core at sent) 0) (argument (arguments_in core at sent) 1) ≡ true

-- A send to a value has led on with the topmost frame at those registers; or nothing has changed.
abbrev pub BeginsOrNothing : CodeProgram → Core → Registers → Sent → Value → Sending → Core → Option Registers → Type 0
BeginsOrNothing code old at sent receiver kind new (Some to) =
    (activation : Activation) → Sends code old at sent.floor (sent_at code old at sent activation (To receiver kind)) new (On to)
BeginsOrNothing code old at sent receiver kind new None = new ≡ old
