use Rattle.ns_machine_restore.proofs.restore.read_snap.Goals as goal

pub admitted-requires : goal.admitted-requires
admitted-requires c = c.read_limits_are_in_range.ensures c.args.bytes.now c.in-Ok.snapshot c.in-Ok.ensures
