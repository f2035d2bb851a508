use Rattle.std.proofs.Common.{◌≡◌, IfOk, IsErrOf, List, subst, ℕ}
use Rattle.ns_run_snap.proofs.Pausing.{same_snapshot}
use Rattle.ns_run_snap.proofs.snap.snap_code.Goals as goal
use Rattle.ns_run_snap.specs.Snapped.{of_bytes, snapshot, snapshot_too_large}
use Rattle.ns_run_snap.specs.declared.snap.PauseFault.TheVariants.{Snapshot}

pub returns-clause-snapshot : goal.returns-clause-snapshot
returns-clause-snapshot c =
    subst (λ (bytes : List ℕ). IfOk c.written-told.result (λ made. of_bytes bytes ≡ snapshot made.items))
    (same_snapshot c.args.code c.code.result.now c.args.limits c.args.steps c.in_ok-machine.machine c.in_ok-frozen.frozen c.in_ok-machine.ensures c.code.ensures.code c.in_ok-frozen.ensures)
    c.written-told.ensures.snapshot

pub returns-clause-large_snapshot : goal.returns-clause-large_snapshot
returns-clause-large_snapshot c =
    subst (λ (bytes : List ℕ). IsErrOf c.written-told.result Snapshot → of_bytes bytes ≡ snapshot_too_large)
    (same_snapshot c.args.code c.code.result.now c.args.limits c.args.steps c.in_ok-machine.machine c.in_ok-frozen.frozen c.in_ok-machine.ensures c.code.ensures.code c.in_ok-frozen.ensures)
    c.written-told.ensures.large_snapshot
