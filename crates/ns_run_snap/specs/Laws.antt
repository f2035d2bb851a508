-- What is said of runs that are paused by the laws about them.
use Rattle.std.specs.Prelude.{◌≡◌, ℕ, []}
use Rattle.ns_base.specs.declared.limits.Limits.{Limits}
use Rattle.ns_code.specs.declared.program.CodeProgram.{CodeProgram}
use Rattle.ns_code.specs.Fits.{IsShort}
use Rattle.ns_facets.specs.declared.row.Grants.{Grants}
use Rattle.ns_frozen.specs.Freezing.{frozen_of}
use Rattle.ns_gen_code.specs.Code.{code_of}
use Rattle.ns_image.specs.Bytes.{bytes_of}
use Rattle.ns_link.specs.Stated.{MayRun}
use Rattle.ns_moves.specs.State.{State}
use Rattle.ns_moves.specs.Valid.{Valid}
use Rattle.ns_resolved.specs.Program.{Meant}
use Rattle.ns_run_code.specs.Machine.{rested}
use Rattle.ns_run_code.specs.Run.{granted, meant_run}
use Rattle.ns_run_snap.specs.Resumed.{has_run, resumed}
use Rattle.ns_run_snap.specs.Snapped.{paused, snapshot_at}
use Rattle.ns_session.specs.Turned.{turned}
use Rattle.ns_snapshot.specs.Fits.{FrozenFits}

-- ---- turns

-- A turn leads to a valid state, from which the run comes to rest where it would without that turn.
pub record GoesOnFrom (code : CodeProgram) (grants : Grants) (old new : State) : Type 0 where
  pub valid : Valid code grants new
  pub rests : rested code new ≡ rested code old

abbrev pub TurnsGoOn : CodeProgram → Grants → Type 0
TurnsGoOn code grants = (steps : ℕ) (state : State) → Valid code grants state → GoesOnFrom code grants state (turned code steps state)

-- ---- snapshots

-- A program that may run, and whose snapshot after so many steps has a field for each number, as that of a machine has.
pub record MayPause (meant : Meant) (limits : Limits) (steps : ℕ) : Type 0 where
  pub run : MayRun meant limits
  pub short : IsShort (bytes_of (code_of meant))
  pub fields : FrozenFits (frozen_of (code_of meant) granted (paused (code_of meant) limits steps))

-- From its snapshot it goes on to what its source means, after however many steps that was made.
abbrev pub ResumesAsMeant : Meant → Type 0
ResumesAsMeant meant =
    (limits : Limits) (steps : ℕ) → MayPause meant limits steps
    → resumed (snapshot_at (code_of meant) limits steps) ≡ has_run (meant_run meant limits [])
