use Rattle.ns_run_snap.proofs.Resumed.{run_is}
use Rattle.ns_run_snap.proofs.resume.resume.Goals as goal
use Rattle.ns_snapshot.specs.Snapshot.{read_snapshot}

pub returns-in_ok-ran-in-Ok-clause-ran : goal.returns-in_ok-ran-in-Ok-clause-ran
returns-in_ok-ran-in-Ok-clause-ran c =
    run_is (read_snapshot c.args.bytes.now) c.in-Ok.machine c.in_ok-ran-in-Ok.ran c.in-Ok.ensures c.in_ok-ran-in-Ok.ensures
