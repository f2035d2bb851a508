use Rattle.std.proofs.Common.{◌∙◌, [], ap, sym}
use Rattle.ns_machine.specs.Machine.{MachineView}
use Rattle.ns_moves.specs.State.{world_of}
use Rattle.ns_machine_restore.proofs.Started.{new_limits}
use Rattle.ns_machine_restore.proofs.restore.machine_of.Goals as goal

pub restore_valid-requires-clause-limits : goal.restore_valid-requires-clause-limits
restore_valid-requires-clause-limits c =
    let frozen = c.args.snapshot.frozen in
    sym (ap (λ (m : MachineView). (world_of m.state).limits) c.in-Ok.ensures ∙ new_limits c.args.snapshot.code frozen.limits frozen.grants [])
