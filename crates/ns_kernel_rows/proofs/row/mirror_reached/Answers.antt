use Rattle.ns_kdata.specs.Arguments.{argument}
use Rattle.ns_mirror.specs.Looking.{mirrored}
use Rattle.ns_kernel_rows.proofs.Outcomes.{mirror_room_kept, mirror_limits_kept}
use Rattle.ns_kernel_rows.proofs.row.mirror_reached.Goals as goal

pub returns-clause-limits : goal.returns-clause-limits
returns-clause-limits c =
    let world = c.args.world.now.world in
    let args = c.args.args.now in
    mirror_limits_kept _ _ _ _ c.mirror.ensures
    (c.rows_lead_on.ensures world c.args.code.now c.args.row (mirrored world.cells c.cell_number.result) (argument args 0) (argument args 1))

pub returns-clause-room : goal.returns-clause-room
returns-clause-room c = mirror_room_kept _ _ _ _ c.mirror.ensures
