use Rattle.ns_machine_sends.proofs.Placed.{items_fit}
use Rattle.ns_machine_sends.proofs.evaluating.wait_with_items.Goals as goal

pub keep_items-requires-clause-room : goal.keep_items-requires-clause-room
keep_items-requires-clause-room c =
    items_fit c.args.code.now c.args.core.now c.args.at c.args.sent c.args.block c.args.array c.requires.left c.requires.goes
