use Rattle.std.proofs.Common.{◌≡◌, IfOk, IsErrOf, subst}
use Rattle.ns_resolved.specs.Classes.{meant}
use Rattle.ns_run_snap.proofs.Pausing.{same_program}
use Rattle.ns_run_snap.proofs.snap.snap.Goals as goal
use Rattle.ns_run_snap.specs.Snapped.{Snapped, snapshot, snapshot_too_large}
use Rattle.ns_run_snap.specs.declared.snap.PauseFault.TheVariants.{Snapshot}

pub returns-in-Ok-clause-snapshot : goal.returns-in-Ok-clause-snapshot
returns-in-Ok-clause-snapshot c =
    subst (λ (snapped : Snapped). IfOk c.snap_code.result (λ made. snapped ≡ snapshot made.items))
    (same_program (meant c.args.checked.now) c.in-Ok.code c.args.limits c.args.steps c.in-Ok.ensures.code c.in-Ok.ensures.small) c.snap_code.ensures.snapshot

pub returns-in-Ok-clause-large_snapshot : goal.returns-in-Ok-clause-large_snapshot
returns-in-Ok-clause-large_snapshot c =
    subst (λ (snapped : Snapped). IsErrOf c.snap_code.result Snapshot → snapped ≡ snapshot_too_large)
    (same_program (meant c.args.checked.now) c.in-Ok.code c.args.limits c.args.steps c.in-Ok.ensures.code c.in-Ok.ensures.small) c.snap_code.ensures.large_snapshot
