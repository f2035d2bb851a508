use Rattle.std.proofs.Common.{subst}
use Rattle.ns_world.specs.declared.kernel_parts.DataRow.{DataRow}
use Rattle.ns_world.specs.declared.kernel_row.Row.TheVariants.{Data}
use Rattle.ns_machine_quick.specs.Rows.{FindsRow}
use Rattle.ns_machine_quick.proofs.ArraySends.{array_finds}
use Rattle.ns_machine_quick.proofs.arrays.send_to.Goals as goal

pub send_put-requires-clause-finds : goal.send_put-requires-clause-finds
send_put-requires-clause-finds c =
    subst (λ (row : DataRow). FindsRow c.args.code.now c.args.core.now c.args.sent c.args.receiver c.args.kind (Data row)) c.in-ArrayPut.is
    (array_finds c.args.code.now c.args.core.now c.args.sent c.args.receiver c.args.kind c.args.row c.requires.array
    (c.arrays_find_rows.ensures c.args.core.now.run.world.world.cells c.args.code.now c.args.sent.site.sel c.args.kind c.args.row c.requires.row))

pub send_read-requires-clause-finds : goal.send_read-requires-clause-finds
send_read-requires-clause-finds c =
    array_finds c.args.code.now c.args.core.now c.args.sent c.args.receiver c.args.kind c.args.row c.requires.array
    (c.arrays_find_rows.ensures c.args.core.now.run.world.world.cells c.args.code.now c.args.sent.site.sel c.args.kind c.args.row c.requires.row)
