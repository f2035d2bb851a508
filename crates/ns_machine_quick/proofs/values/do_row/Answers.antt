use Rattle.ns_find.specs.declared.found.Found.TheVariants.{Kernel}
use Rattle.ns_machine_quick.proofs.Below.{read_can, read_finds}
use Rattle.ns_machine_quick.proofs.Evaluating.{read_goes}
use Rattle.ns_machine_quick.proofs.values.do_row.Goals as goal

pub send_to_row-requires-clause-can : goal.send_to_row-requires-clause-can
send_to_row-requires-clause-can c =
    read_can c.args.code.now c.args.core.now c.args.at c.args.send.now c.sent_below-sent.result c.receiver_below-receiver.result c.sent_below-sent.ensures
    c.receiver_below-receiver.ensures c.requires.can

pub send_to_row-requires-clause-finds : goal.send_to_row-requires-clause-finds
send_to_row-requires-clause-finds c =
    read_finds c.args.code.now c.args.core.now c.args.at c.args.send.now c.sent_below-sent.result c.receiver_below-receiver.result c.sent_below-sent.ensures
    c.receiver_below-receiver.ensures (Kernel c.args.number) c.requires.finds

pub returns : goal.returns
returns c =
    read_goes c.args.code.now c.args.core.now c.args.at c.args.send.now c.sent_below-sent.result c.receiver_below-receiver.result c.sent_below-sent.ensures
    c.receiver_below-receiver.ensures c.send_to_row.new.core c.send_to_row.result c.send_to_row.ensures
