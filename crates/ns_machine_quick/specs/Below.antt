-- Sends of a step to the value that stands below its arguments.
use Rattle.std.specs.Prelude.{◌≡◌, ℕ, ◌-◌, ◌+◌, ◌≤◌, length, slice_index_or}
use Rattle.ns_code.specs.declared.program.CodeProgram.{CodeProgram}
use Rattle.ns_world.specs.declared.kernel.ClassName.{ClassName}
use Rattle.ns_world.specs.declared.value.Value.{Value}
use Rattle.ns_world.specs.declared.value.Value.TheVariants.{Nil}
use Rattle.ns_world.specs.Starts.{class_name_of, start_of}
use Rattle.ns_find.specs.declared.found.Found.{Found}
use Rattle.ns_find.specs.Find.{found_from}
use Rattle.ns_machine_frames.specs.declared.registers.Registers.{Registers}
use Rattle.ns_machine_frames.specs.declared.stack.Stack.{Stack}
use Rattle.ns_machine_frames.specs.Standing.{operands_in}
use Rattle.ns_machine_frames.specs.Stack.{stood, with_top, IsLaid}
use Rattle.ns_machine_plan.specs.declared.packed.ValueSend.{ValueSend}
use Rattle.ns_machine_core.specs.declared.led.Led.{Led}
use Rattle.ns_machine_core.specs.declared.state.Core.{Core}
use Rattle.ns_machine_sends.specs.declared.sent.Sent.{Sent}
use Rattle.ns_machine_sends.specs.Sending.{CanSend}
use Rattle.ns_machine_quick.specs.Given.{SendLeads}

-- the value below so many topmost operands
abbrev pub operand_below : Stack → Registers → ℕ → Value
operand_below stack at argc = slice_index_or (operands_in (stood stack (with_top (at.top - argc) at))) 0 Nil

-- the receiver of a send with so many arguments
abbrev pub receiver_below : Core → Registers → ℕ → Value
receiver_below core at argc = operand_below core.stack at argc

-- what a step sends to a receiver of that class
abbrev pub sent_by : Registers → ValueSend → ClassName → Sent
sent_by at send class =
    record { site = record { place = send.place; class = class; sel = send.sel }; floor = at.top - send.argc - 1; first = at.top - send.argc }

-- what it sends to the receiver below its arguments, whose class the site names
abbrev pub sent_below : Core → Registers → ValueSend → Sent
sent_below core at send = sent_by at send (class_name_of core.run.world.world.cells (receiver_below core at send.argc))

-- An operand stands below so many.
pub record StandsBelow (stack : Stack) (at : Registers) (argc : ℕ) : Type 0 where
  pub enough : argc + 1 ≤ at.top
  pub laid : IsLaid stack (with_top (at.top - argc) at)
  pub some : 1 ≤ length (operands_in (stood stack (with_top (at.top - argc) at)))

-- A step can send to the receiver that stands below its arguments.
pub record CanSendBelow (code : CodeProgram) (core : Core) (at : Registers) (send : ValueSend) : Type 0 where
  pub stands : StandsBelow core.stack at send.argc
  pub can : CanSend code core at (sent_below core at send) (receiver_below core at send.argc)

-- That receiver finds this.
abbrev pub FindsBelow : CodeProgram → Core → Registers → ValueSend → Found → Type 0
FindsBelow code core at send found =
    found_from core.run.world.world.cells code (start_of core.run.world.world.cells (receiver_below core at send.argc)) send.sel.0 send.kind ≡ found

-- The send to it has led there; or nothing is done.
abbrev pub BelowLeads : CodeProgram → Core → Registers → ValueSend → Core → Led → Type 0
BelowLeads code old at send new led = SendLeads code old at (sent_below old at send) (receiver_below old at send.argc) send.kind new led
