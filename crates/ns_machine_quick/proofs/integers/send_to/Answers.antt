use Rattle.ns_machine_quick.proofs.IntegerSends.{integer_finds}
use Rattle.ns_machine_quick.proofs.integers.send_to.Goals as goal

pub charge-requires-clause-finds : goal.charge-requires-clause-finds
charge-requires-clause-finds c =
    integer_finds c.args.code.now c.args.core.now c.args.sent c.args.receiver c.args.kind c.args.row c.requires.integer
    (c.integers_find_rows.ensures c.args.core.now.run.world.world.cells c.args.code.now c.args.sent.site.sel c.args.kind c.args.row c.requires.row)
