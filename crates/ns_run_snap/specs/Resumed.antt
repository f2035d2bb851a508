-- The run that goes on from a snapshot.
use Rattle.std.specs.Prelude.{ℕ, List, Result, Ok, Err}
use Rattle.ns_code.specs.declared.program.CodeProgram.{CodeProgram}
use Rattle.ns_frozen.specs.Thawing.{thawed}
use Rattle.ns_moves.specs.Starts.{started}
use Rattle.ns_moves.specs.State.{State}
use Rattle.ns_run_code.specs.Machine.{rested, told_at}
use Rattle.ns_run_code.specs.declared.run.Ran.{Ran}
use Rattle.ns_run_snap.specs.declared.resume.ResumeFault.{ResumeFault}
use Rattle.ns_run_snap.specs.declared.resume.ResumeFault.TheVariants as told
use Rattle.ns_snapshot.specs.Snapshot.{read_snapshot}
use Rattle.ns_snapshot.specs.declared.fault.SnapFault.{SnapFault}
use Rattle.ns_snapshot.specs.declared.fault.SnapFault.TheVariants as snap
use Rattle.ns_snapshot.specs.declared.snapshot.Snapshot.{Snapshot}

-- the run that goes on from a state to its end; one in which nothing was begun is started
abbrev pub run_on : CodeProgram → State → Ran
run_on code state = told_at code (rested code (started code state))

-- a snapshot that is refused, or the run from its state on
pub data Resumed : Type 0 where
  refused : (fault : SnapFault) → Resumed
  has_run : (ran : Ran) → Resumed

-- what becomes of a snapshot that was read
abbrev pub of_read : Result Snapshot SnapFault → Resumed
of_read (Err fault) = refused fault
of_read (Ok snapshot) = has_run (run_on snapshot.code (thawed snapshot.code snapshot.frozen))

-- what becomes of the bytes of a snapshot
abbrev pub resumed : List ℕ → Resumed
resumed bytes = of_read (read_snapshot bytes)

-- the fault of a snapshot, apart from want of memory
abbrev pub told_fault : SnapFault → ResumeFault
told_fault snap.NotASnapshot = told.Snapshot snap.NotASnapshot
told_fault snap.BadVersion = told.Snapshot snap.BadVersion
told_fault snap.Truncated = told.Snapshot snap.Truncated
told_fault (snap.BadField at) = told.Snapshot (snap.BadField at)
told_fault snap.Trailing = told.Snapshot snap.Trailing
told_fault snap.BadImage = told.Snapshot snap.BadImage
told_fault (snap.BadCell k) = told.Snapshot (snap.BadCell k)
told_fault (snap.BadFrame k) = told.Snapshot (snap.BadFrame k)
told_fault snap.BadRest = told.Snapshot snap.BadRest
told_fault snap.Memory = told.Memory
