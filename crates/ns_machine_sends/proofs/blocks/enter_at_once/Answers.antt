use Rattle.ns_world.specs.declared.value.Value.TheVariants.{Ref}
use Rattle.ns_machine_sends.specs.Going.{arguments_in}
use Rattle.ns_machine_sends.proofs.AtOnce.{cell_there, entered_moves}
use Rattle.ns_machine_sends.proofs.Awaited.{once_left, once_waiting}
use Rattle.ns_machine_sends.proofs.blocks.enter_at_once.Goals as goal

pub block_at-requires : goal.block_at-requires
block_at-requires c =
    cell_there c.args.code.now c.args.core.now (arguments_in c.args.core.now c.args.at c.args.sent) c.args.cell
    (once_waiting c.args.code.now c.requires.waits.0 c.args.core.now c.args.at c.args.sent (Ref c.args.cell) c.requires.waits.1)

pub begin_block-requires-clause-left : goal.begin_block-requires-clause-left
begin_block-requires-clause-left c =
    once_left c.args.code.now c.requires.waits.0 c.args.core.now c.args.at c.args.sent (Ref c.args.cell) c.requires.waits.1 c.requires.place

pub begin_block-requires-clause-is : goal.begin_block-requires-clause-is
begin_block-requires-clause-is c =
    once_waiting c.args.code.now c.requires.waits.0 c.args.core.now c.args.at c.args.sent (Ref c.args.cell) c.requires.waits.1

pub returns-in-Some : goal.returns-in-Some
returns-in-Some c =
    entered_moves c.args.code.now c.requires.waits.0 c.args.core.now c.args.at c.args.sent (Ref c.args.cell) c.requires.waits.1 c.begin_block.new.core
    c.begin_block.result c.begin_block.ensures
