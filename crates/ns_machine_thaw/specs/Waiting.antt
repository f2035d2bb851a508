-- What is pending, kept by a machine again.
use Rattle.std.specs.Prelude.{◌≡◌, List, []}
use Rattle.ns_code.specs.declared.program.CodeProgram.{CodeProgram}
use Rattle.ns_world.specs.declared.value.Value.{Value}
use Rattle.ns_moves.specs.declared.site.Site.{Site}
use Rattle.ns_moves.specs.State.{Pends}
use Rattle.ns_frozen.specs.declared.pending.Pending.{Pending}
use Rattle.ns_frozen.specs.declared.pending.Pending.TheVariants.{Send, Perform, Evaluate}
use Rattle.ns_frozen.specs.Thawing.{pending_thawed}
use Rattle.ns_machine_frames.specs.declared.registers.Registers.{Registers}
use Rattle.ns_machine_frames.specs.Stack.{stood}
use Rattle.ns_machine_frames.specs.View.{frames_shown}
use Rattle.ns_machine_core.specs.declared.state.Core.{Core}
use Rattle.ns_machine_core.specs.declared.state.Next.{Next}
use Rattle.ns_machine_core.specs.Shown.{phase_shown, progress_in, shown}
use Rattle.ns_machine_core.specs.Standing.{StandAt}

-- its site
abbrev pub site_of : Pending → Site
site_of (Send receiver sel arguments site) = site
site_of (Perform receiver sel array site) = site
site_of (Evaluate block arguments site) = site

-- its arguments, where they stand in a list of their own
abbrev pub arguments_of : Pending → List Value
arguments_of (Send receiver sel arguments site) = arguments
arguments_of (Perform receiver sel array site) = []
arguments_of (Evaluate block arguments site) = arguments

-- Nothing but what waits has changed, and how it is kept.
pub record WaitsAlone (old new : Core) : Type 0 where
  pub run : new.run ≡ old.run
  pub stack : new.stack ≡ old.stack
  pub places : new.places ≡ old.places
  pub room : new.arguments.room ≡ old.arguments.room

-- It waits above the frames that stand.
pub record PendingWaits (code : CodeProgram) (old : Core) (at : Registers) (pending : Pending) (new : Core) (next : Next) : Type 0 where
  pub state : shown code new next ≡
      Pends (phase_shown old.phase) (pending_thawed pending) (frames_shown code old.places (stood old.stack at)) (progress_in old)
  pub stand : StandAt code new next
