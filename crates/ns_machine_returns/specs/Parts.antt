-- Superclass parts that begin.
use Rattle.std.specs.Prelude.{◌≡◌, ℕ, drop}
use Rattle.ns_code.specs.declared.program.CodeProgram.{CodeProgram}
use Rattle.ns_moves.specs.declared.control.Entered.{Entered}
use Rattle.ns_moves.specs.declared.control.Given.TheVariants.{Listed}
use Rattle.ns_moves.specs.declared.control.PartReached.TheVariants as part
use Rattle.ns_moves.specs.Shown.{part_shown}
use Rattle.ns_moves.specs.Arrivals.{part_arrived}
use Rattle.ns_machine_frames.specs.declared.calls.Call.{Call}
use Rattle.ns_machine_frames.specs.declared.frame.KeptSite.{KeptSite}
use Rattle.ns_machine_frames.specs.declared.frame.Leaving.TheVariants.{Part}
use Rattle.ns_machine_frames.specs.declared.registers.Registers.{Registers}
use Rattle.ns_machine_frames.specs.Stack.{in_use, stood, with_top}
use Rattle.ns_machine_frames.specs.View.{site_shown, frames_shown}
use Rattle.ns_machine_core.specs.declared.state.Core.{Core}
use Rattle.ns_machine_core.specs.declared.state.Next.{Next}
use Rattle.ns_machine_core.specs.Shown.{phase_shown, progress_in, shown}
use Rattle.ns_machine_core.specs.Standing.{StandAt, KeepsRooms}

-- the call of a superclass part, whose arguments stand from a place on, where its caller's values end
abbrev pub part_call : KeptSite → ℕ → Call
part_call site first = record { leaving = Part; site = site; floor = first; first = first }

-- a body that is entered on its arguments as they stand
abbrev pub listed : Entered → Entered
listed entered = record entered { given = Listed }

-- The initialiser of a superclass was entered on the values from a place on.
pub record PartBegins (code : CodeProgram) (old : Core) (at : Registers) (first : ℕ) (site : KeptSite) (entered : Entered) (new : Core) (next : Next) : Type 0 where
  pub state : shown code new next ≡
      part_arrived code (phase_shown old.phase)
      (part_shown code (site_shown old.places site) (drop first (in_use old.stack at)) (part.Enters (listed entered)) (progress_in old))
      (frames_shown code old.places (stood old.stack (with_top first at)))
  pub stand : StandAt code new next
  pub run : new.run ≡ old.run
  pub stays : KeepsRooms old new
