use Rattle.ns_machine_quick.proofs.BooleanSends.{boolean_finds}
use Rattle.ns_machine_quick.proofs.booleans.send_to.Goals as goal

pub charge-requires-clause-finds : goal.charge-requires-clause-finds
charge-requires-clause-finds c =
    boolean_finds c.args.code.now c.args.core.now c.args.sent c.args.receiver c.args.kind c.args.method c.requires.boolean
    (c.booleans_find_rows.ensures c.args.core.now.run.world.world.cells c.args.code.now c.args.sent.site.sel c.args.kind c.args.method c.requires.method)

pub send_method-requires-clause-finds : goal.send_method-requires-clause-finds
send_method-requires-clause-finds c =
    boolean_finds c.args.code.now c.args.core.now c.args.sent c.args.receiver c.args.kind c.args.method c.requires.boolean
    (c.booleans_find_rows.ensures c.args.core.now.run.world.world.cells c.args.code.now c.args.sent.site.sel c.args.kind c.args.method c.requires.method)
