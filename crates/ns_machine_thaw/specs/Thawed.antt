-- What a machine shows of plain data that was put back.
use Rattle.std.specs.Prelude.{◌≡◌, ℕ, ◌<◌, ◌≤◌, List, length, slice_get, Option, Some, None, All}
use Rattle.ns_base.specs.declared.place.Place.{Place as SourcePlace}
use Rattle.ns_code.specs.declared.program.CodeProgram.{CodeProgram}
use Rattle.ns_find.specs.Memo.{IsEmpty}
use Rattle.ns_moves.specs.declared.run.Run.{Run}
use Rattle.ns_moves.specs.Room.{SameRest}
use Rattle.ns_moves.specs.Run.{progress_of}
use Rattle.ns_moves.specs.State.{State, Unbegun}
use Rattle.ns_frozen.specs.declared.frozen.Frozen.{Frozen}
use Rattle.ns_frozen.specs.declared.pending.Pending.{Pending}
use Rattle.ns_frozen.specs.Thawing.{thawed, state_at, progress_thawed, arguments_in, heap_thawed}
use Rattle.ns_machine_core.specs.declared.state.Core.{Core}
use Rattle.ns_machine_core.specs.Shown.{progress_in, shown}
use Rattle.ns_machine_core.specs.Standing.{StandAt}
use Rattle.ns_machine_thaw.specs.declared.thawed.Thawed.{Thawed}
use Rattle.ns_machine_thaw.specs.declared.thawed.Thawed.TheVariants as to
use Rattle.ns_machine_thaw.specs.Frames.{SiteIsPlaced}
use Rattle.ns_machine_thaw.specs.Waiting.{site_of, arguments_of}

-- the state, by where it stands
abbrev pub thawed_shown : CodeProgram → Core → Thawed → State
thawed_shown code core (to.Unbegun arguments) = Unbegun arguments (progress_in core)
thawed_shown code core (to.Begun next) = shown code core next

-- Where a run was begun, its frames stand where it goes next.
abbrev pub StandThawed : CodeProgram → Core → Thawed → Type 0
StandThawed code core (to.Unbegun arguments) = Unit {0}
StandThawed code core (to.Begun next) = StandAt code core next

-- There is as much memory as there was, and the places below a number are those that they were.
pub record KeepsMemory (first : ℕ) (old new : Core) : Type 0 where
  pub world : SameRest old.run.world new.run.world
  pub values : new.stack.values.room ≡ old.stack.values.room
  pub frames : new.stack.frames.room ≡ old.stack.frames.room
  pub arguments : new.arguments.room ≡ old.arguments.room
  pub count : length new.places ≡ length old.places
  pub below : (k : ℕ) → k < first → slice_get new.places k ≡ slice_get old.places k

-- It shows the state that the plain data stands for, its frames stand, and it keeps no lookup.
pub record IsThawed (code : CodeProgram) (first : ℕ) (frozen : Frozen) (old new : Core) (thawed_to : Thawed) : Type 0 where
  pub state : thawed_shown code new thawed_to ≡ thawed code frozen
  pub stand : StandThawed code new thawed_to
  pub memo : All IsEmpty new.run.memo
  pub stays : KeepsMemory first old new

-- ---- what stands

-- What has been begun and hasn't ended is put back, where nothing else has changed.
pub record StandingIsPut (code : CodeProgram) (first : ℕ) (frozen : Frozen) (old new : Core) (thawed_to : Thawed) : Type 0 where
  pub state : thawed_shown code new thawed_to
      ≡ state_at code frozen (progress_in old) (arguments_in code frozen.grants (heap_thawed code frozen.cells)) frozen.pending None
  pub stand : StandThawed code new thawed_to
  pub run : new.run ≡ old.run
  pub stays : KeepsMemory first old new

-- The site of what is pending has its place under a number, and the other numbers have theirs as before.
pub record PendingIsWritten (number : ℕ) (pending : Option Pending) (old new : List SourcePlace) : Type 0 where
  pub placed : (one : Pending) → pending ≡ Some one → SiteIsPlaced new number (site_of one)
  pub others : (k : ℕ) → (k ≡ number → ⊥) → slice_get new k ≡ slice_get old k
  pub count : length new ≡ length old

-- There is room for the arguments of what is pending.
abbrev pub ArgumentsFit : Option Pending → ℕ → Type 0
ArgumentsFit pending room = (one : Pending) → pending ≡ Some one → length (arguments_of one) ≤ room

-- What has been done is put back.
pub record RunIsPut (code : CodeProgram) (frozen : Frozen) (old new : Run) : Type 0 where
  pub progress : progress_of new ≡ progress_thawed code frozen
  pub memo : All IsEmpty new.memo
  pub world : SameRest old.world new.world
