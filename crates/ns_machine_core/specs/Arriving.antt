-- Where an action's end leads: into a body, into a method of the kernel, or to an evaluation that waits.
use Rattle.std.specs.Prelude.{◌≡◌, ℕ, ◌≤◌, length, List}
use Rattle.ns_code.specs.declared.program.CodeProgram.{CodeProgram}
use Rattle.ns_moves.specs.declared.control.Exit.{Exit}
use Rattle.ns_moves.specs.declared.control.Entered.{Entered}
use Rattle.ns_moves.specs.declared.control.Reached.{Reached}
use Rattle.ns_world.specs.declared.value.Value.{Value}
use Rattle.ns_machine_frames.specs.declared.frame.KeptSite.{KeptSite}
use Rattle.ns_moves.specs.Bodies as bodies
use Rattle.ns_moves.specs.Control.{Control}
use Rattle.ns_moves.specs.Shown.{given_values, passed, reached_shown}
use Rattle.ns_moves.specs.Arrivals.{arrived}
use Rattle.ns_machine_frames.specs.declared.calls.BodyShape.{BodyShape}
use Rattle.ns_machine_frames.specs.declared.calls.Call.{Call}
use Rattle.ns_machine_frames.specs.declared.registers.Registers.{Registers}
use Rattle.ns_machine_frames.specs.Calls.{arguments_for, arguments_of, FitsCall}
use Rattle.ns_machine_frames.specs.Room.{FramesFitWithin, bound}
use Rattle.ns_machine_frames.specs.Stack.{stood, with_top, FramesCanBegin}
use Rattle.ns_machine_frames.specs.View.{site_shown, frames_shown}
use Rattle.ns_machine_core.specs.declared.state.Core.{Core}
use Rattle.ns_machine_core.specs.declared.state.Next.{Next}
use Rattle.ns_machine_core.specs.Shown.{progress_in, phase_shown, shown}
use Rattle.ns_machine_core.specs.Standing.{StandAt, KeepsRooms}
use Rattle.ns_moves.specs.Bodies.{height_in, greatest_of}

-- what code says of a body
abbrev pub shape_of : CodeProgram → ℕ → BodyShape
shape_of code body = record {
  params = bodies.parameters_of code body;
  locals = bodies.locals_of code body;
  environment = bodies.has_environment code body;
  height = height_in code body;
}

-- where control goes with what an action of this machine has reached, at a site and with these arguments
abbrev pub reached_at : CodeProgram → Core → KeptSite → List Value → Reached → Control
reached_at code core site values reached = reached_shown code (site_shown core.places site) values reached (progress_in core)

-- A frame can begin at a floor, and the frames below it reach no further than they may.
pub record CanBegin (code : CodeProgram) (core : Core) (at : Registers) (floor first : ℕ) : Type 0 where
  pub begins : FramesCanBegin core.stack at floor
  pub within : FramesFitWithin (height_in code) (greatest_of code.bodies) (length core.stack.values.items) core.stack.frames.items
  pub reach : first ≤ bound (greatest_of code.bodies) core.stack.frames.items

-- A body that was reached can be entered on the arguments of a call; a clause has none.
pub record CanEnter (code : CodeProgram) (core : Core) (at : Registers) (call : Call) (exit : Exit) (entered : Entered) : Type 0 where
  pub begins : CanBegin code core at call.floor call.first
  pub fits : FitsCall (shape_of code entered.body) call entered.given core.stack at
  pub given : arguments_for (arguments_of call core.stack at) entered.given
      ≡ given_values core.run.world.world.cells (passed exit (arguments_of call core.stack at)) entered.given

-- Control is where an action led it, from frames that stand at a floor.
pub record Arrives (code : CodeProgram) (old : Core) (at : Registers) (floor : ℕ) (control : Control) (new : Core) (next : Next) : Type 0 where
  pub state : shown code new next ≡ arrived code (phase_shown old.phase) control (frames_shown code old.places (stood old.stack (with_top floor at)))
  pub stand : StandAt code new next
  pub run : new.run ≡ old.run
  pub stays : KeepsRooms old new
