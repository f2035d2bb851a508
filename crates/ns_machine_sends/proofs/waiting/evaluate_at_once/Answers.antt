use Rattle.ns_machine_sends.proofs.Awaited.{once_left, once_waiting, once_moves}
use Rattle.ns_machine_sends.proofs.waiting.evaluate_at_once.Goals as goal

pub enter_block-requires-clause-left : goal.enter_block-requires-clause-left
enter_block-requires-clause-left c =
    once_left c.args.code.now c.requires.waits.0 c.args.core.now c.args.at c.args.sent c.args.block c.requires.waits.1 c.requires.place

pub enter_block-requires-clause-is : goal.enter_block-requires-clause-is
enter_block-requires-clause-is c =
    once_waiting c.args.code.now c.requires.waits.0 c.args.core.now c.args.at c.args.sent c.args.block c.requires.waits.1

pub returns : goal.returns
returns c =
    once_moves c.args.code.now c.requires.waits.0 c.args.core.now c.args.at c.args.sent c.args.block c.requires.waits.1 c.enter_block.new.core c.enter_block.result
    c.enter_block.ensures
