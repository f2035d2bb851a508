-- Sends that waited.
use Rattle.std.specs.Prelude.{◌≡◌, ◌<◌, ◌≤◌, ℕ, List, length}
use Rattle.ns_base.specs.declared.selector.Sel.{Sel}
use Rattle.ns_code.specs.declared.program.CodeProgram.{CodeProgram}
use Rattle.ns_verify.specs.Verify.{IsSound}
use Rattle.ns_world.specs.declared.value.Value.{Value}
use Rattle.ns_world.specs.Lawful.{IsLawful, IsLiveValue}
use Rattle.ns_moves.specs.Lawful.{FitsSelector}
use Rattle.ns_machine_frames.specs.declared.frame.KeptSite.{KeptSite}
use Rattle.ns_machine_frames.specs.declared.registers.Registers.{Registers}
use Rattle.ns_machine_frames.specs.Stack.{stood, with_top}
use Rattle.ns_machine_core.specs.declared.state.Core.{Core}
use Rattle.ns_machine_core.specs.Standing.{AreStanding, ArgumentsWait, HasRooms, KeepsRooms, KeepsRightIn}
use Rattle.ns_machine_core.specs.Framed.{HasRoomOnTop}
use Rattle.ns_machine_sends.specs.declared.sent.Sent.{Sent}

-- what was sent from a floor on, above which none of its arguments stand
abbrev pub sent_from_floor : KeptSite → ℕ → Sent
sent_from_floor site floor = record { site = site; floor = floor; first = floor }

-- What is known where a send of a selector waits with these arguments.
pub record WaitsToSend (code : CodeProgram) (core : Core) (at : Registers) (sent : Sent) (receiver : Value) (sel : Sel) (arguments : List Value) : Type 0 where
  pub sound : IsSound code
  pub lawful : IsLawful core.run.world.world code
  pub begun : core.run.begun ≤ core.run.world.world.steps
  pub kept : KeepsRightIn code core core
  pub rooms : HasRooms code core
  pub depth : core.run.world.world.depth ≡ length core.stack.frames.items
  pub live : IsLiveValue core.run.world.world.cells code receiver
  pub selector : FitsSelector core.run.world.world.cells code sel arguments
  pub room : HasRoomOnTop code (stood core.stack (with_top sent.floor at))

-- The arguments are kept, the place for an answer is there, and all else is as it was.
pub record IsSet (code : CodeProgram) (old : Core) (at : Registers) (sent : Sent) (arguments : List Value) (new : Core) : Type 0 where
  pub below : stood new.stack (with_top sent.floor at) ≡ stood old.stack (with_top sent.floor at)
  pub arguments_are : new.arguments.items ≡ arguments
  pub frames : new.stack.frames ≡ old.stack.frames
  pub stands : AreStanding code new.stack at
  pub waits : ArgumentsWait code new.stack at sent.floor sent.first
  pub place : sent.floor < length new.stack.values.items
  pub run : new.run ≡ old.run
  pub phase : new.phase ≡ old.phase
  pub stays : KeepsRooms old new
