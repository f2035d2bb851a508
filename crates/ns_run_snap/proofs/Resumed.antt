-- What goes on from a machine that was read.
use Rattle.std.proofs.Common.{◌≡◌, ◌∙◌, Result, Ok, ap, sym}
use Rattle.ns_machine.specs.Machine.{MachineView}
use Rattle.ns_machine_restore.specs.Restored.{MachineAnswers}
use Rattle.ns_run_code.specs.declared.run.Ran.{Ran}
use Rattle.ns_run_snap.specs.Resumed.{has_run, of_read, run_on}
use Rattle.ns_snapshot.specs.declared.fault.SnapFault.{SnapFault}
use Rattle.ns_snapshot.specs.declared.snapshot.Snapshot.{Snapshot}

-- Its run is that of the snapshot.
pub run_is : (read : Result Snapshot SnapFault) (machine : MachineView) (ran : Ran) → MachineAnswers read (Ok machine) → ran ≡ run_on machine.code machine.state
    → of_read read ≡ has_run ran
run_is read machine ran (snapshot, is, stands) on =
    ap of_read is ∙ ap has_run (sym (on ∙ ap (λ (m : MachineView). run_on m.code m.state) stands))
