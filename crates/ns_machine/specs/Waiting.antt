-- A send that waits with no frame below it.
use Rattle.std.specs.Prelude.{◌≡◌, List, [], Option}
use Rattle.ns_base.specs.declared.place.Place.{Place as SourcePlace}
use Rattle.ns_base.specs.declared.selector.Sel.{Sel}
use Rattle.ns_code.specs.declared.program.CodeProgram.{CodeProgram}
use Rattle.ns_world.specs.declared.value.Value.{Value}
use Rattle.ns_moves.specs.Sends.{site_at}
use Rattle.ns_moves.specs.State.{Sending, Pends}
use Rattle.ns_machine_core.specs.declared.state.Core.{Core}
use Rattle.ns_machine_core.specs.declared.state.Next.{Next}
use Rattle.ns_machine_core.specs.Shown.{phase_shown, progress_in, shown}
use Rattle.ns_machine_core.specs.Standing.{StandAt, KeepsRooms}

-- The send waits with its arguments and its site, and nothing else has changed but the frames, of which there are none.
pub record HostSendWaits (code : CodeProgram) (old : Core) (receiver : Value) (sel : Sel) (place : Option SourcePlace)
    (arguments : List Value) (new : Core) (next : Next)
    : Type 0 where
  pub state : shown code new next ≡
      Pends (phase_shown old.phase) (Sending receiver sel arguments (site_at old.run.world.world.cells place receiver sel)) [] (progress_in old)
  pub stand : StandAt code new next
  pub run : new.run ≡ old.run
  pub stays : KeepsRooms old new
