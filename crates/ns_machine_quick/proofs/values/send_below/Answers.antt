use Rattle.std.proofs.Common.{subst, sym}
use Rattle.ns_kdata.specs.Arguments.{CellIsThere}
use Rattle.ns_machine_quick.specs.Below.{receiver_below}
use Rattle.ns_machine_quick.proofs.values.send_below.Goals as goal

pub is_block-requires : goal.is_block-requires
is_block-requires c =
    subst (CellIsThere c.args.core.now.run.world.world.cells) (sym c.receiver_below-receiver.ensures)
    (c.live_values_are_there.ensures c.args.core.now.run.world.world.cells c.args.code.now (receiver_below c.args.core.now c.args.at c.args.send.now.argc)
    c.requires.can.live)
