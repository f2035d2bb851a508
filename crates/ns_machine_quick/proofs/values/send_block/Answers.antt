use Rattle.ns_machine_quick.proofs.Evaluating.{kind_goes}
use Rattle.ns_machine_quick.proofs.values.send_block.Goals as goal

pub returns : goal.returns
returns c =
    kind_goes c.operands_are_taken.ensures.taken c.args.code.now c.args.core.now c.send_operands.new.core c.args.at c.args.send.now.sel c.args.send.now.argc
    c.args.send.now.place c.args.send.now.kind c.send_operands.result c.requires c.send_operands.ensures
