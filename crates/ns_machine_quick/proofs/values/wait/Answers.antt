use Rattle.ns_machine_quick.proofs.Evaluating.{value_sends}
use Rattle.ns_machine_quick.proofs.values.wait.Goals as goal

pub returns : goal.returns
returns c activation =
    value_sends c.args.code.now c.args.core.now c.wait_for_block.new.core c.args.at c.args.sent c.args.receiver c.args.kind c.wait_for_block.result activation
    c.requires.can c.requires.finds c.wait_for_block.ensures
