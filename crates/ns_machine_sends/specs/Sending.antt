-- Sends: what they ask, and what they do.
use Rattle.std.specs.Prelude.{◌≡◌, ◌≤◌, ℕ, length}
use Rattle.ns_code.specs.declared.program.CodeProgram.{CodeProgram}
use Rattle.ns_world.specs.declared.value.Value.{Value}
use Rattle.ns_world.specs.Starts.{class_name_of}
use Rattle.ns_world.specs.Lawful.{IsLawful, IsLiveValue}
use Rattle.ns_moves.specs.Control.{Activation, Control}
use Rattle.ns_moves.specs.Lawful.{FitsSelector}
use Rattle.ns_moves.specs.Sends.{Target}
use Rattle.ns_moves.specs.Sends as sends
use Rattle.ns_moves.specs.Arrivals.{arrived}
use Rattle.ns_moves.specs.Answered.{answered}
use Rattle.ns_machine_frames.specs.declared.registers.Registers.{Registers}
use Rattle.ns_machine_frames.specs.Stack.{stood, with_top}
use Rattle.ns_machine_frames.specs.View.{site_shown, frames_shown}
use Rattle.ns_machine_core.specs.declared.state.Core.{Core}
use Rattle.ns_machine_core.specs.declared.state.Next.{Next}
use Rattle.ns_machine_core.specs.Shown.{phase_shown, progress_in, shown}
use Rattle.ns_machine_core.specs.Standing.{StandAt, KeepsRooms, KeepsRightIn}
use Rattle.ns_machine_core.specs.Doing.{IsRunning}
use Rattle.ns_machine_sends.specs.declared.sent.Sent.{Sent}
use Rattle.ns_machine_sends.specs.Going.{arguments_in, IsLeft}

-- A send of running code to this receiver can be made: its site names the receiver's class, and its selector takes as many live
-- arguments as stand there; there is as much depth as frames, and the lookups that are kept are right.
pub record CanSend (code : CodeProgram) (core : Core) (at : Registers) (sent : Sent) (receiver : Value) : Type 0 where
  pub left : IsLeft code core at sent
  pub runs : IsRunning core.stack.frames.items
  pub lawful : IsLawful core.run.world.world code
  pub begun : core.run.begun ≤ core.run.world.world.steps
  pub kept : KeepsRightIn code core core
  pub depth : core.run.world.world.depth ≡ length core.stack.frames.items
  pub live : IsLiveValue core.run.world.world.cells code receiver
  pub named : sent.site.class ≡ class_name_of core.run.world.world.cells receiver
  pub selector : FitsSelector core.run.world.world.cells code sent.site.sel (arguments_in core at sent)
  pub few : length (arguments_in core at sent) ≤ 255

-- what its lookup answers, and the send itself
abbrev pub looked_up : CodeProgram → Core → Registers → Sent → Activation → Target → Control
looked_up code core at sent activation target =
    answered code activation target sent.site.sel (arguments_in core at sent) (site_shown core.places sent.site) (progress_in core)

abbrev pub sent_at : CodeProgram → Core → Registers → Sent → Activation → Target → Control
sent_at code core at sent activation target =
    sends.sent code activation target sent.site.sel (arguments_in core at sent) (site_shown core.places sent.site).place (progress_in core)

-- Control is where it led; the lookups that are kept are right in the world before.
pub record Sends (code : CodeProgram) (old : Core) (at : Registers) (floor : ℕ) (control : Control) (new : Core) (next : Next) : Type 0 where
  pub state : shown code new next ≡ arrived code (phase_shown old.phase) control (frames_shown code old.places (stood old.stack (with_top floor at)))
  pub stand : StandAt code new next
  pub stays : KeepsRooms old new
  pub kept : KeepsRightIn code old new
