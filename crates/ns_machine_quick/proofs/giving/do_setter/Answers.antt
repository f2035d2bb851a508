use Rattle.ns_find.specs.declared.found.Found.TheVariants.{Setter}
use Rattle.ns_machine_quick.proofs.Below.{read_can, read_finds, read_leads}
use Rattle.ns_machine_quick.proofs.Given.{tried_charges}
use Rattle.ns_machine_quick.proofs.giving.do_setter.Goals as goal

pub send_setter-requires-clause-can : goal.send_setter-requires-clause-can
send_setter-requires-clause-can c =
    read_can c.args.code.now c.args.core.now c.args.at c.args.send.now c.sent_below-sent.result c.receiver_below-receiver.result c.sent_below-sent.ensures
    c.receiver_below-receiver.ensures c.requires.can

pub send_setter-requires-clause-finds : goal.send_setter-requires-clause-finds
send_setter-requires-clause-finds c =
    read_finds c.args.code.now c.args.core.now c.args.at c.args.send.now c.sent_below-sent.result c.receiver_below-receiver.result c.sent_below-sent.ensures
    c.receiver_below-receiver.ensures (Setter c.args.holder c.args.word) c.requires.finds

pub returns : goal.returns
returns c =
    read_leads c.args.code.now c.args.core.now c.args.at c.args.send.now c.sent_below-sent.result c.receiver_below-receiver.result c.sent_below-sent.ensures
    c.receiver_below-receiver.ensures c.send_setter.new.core c.led_charged.result
    (rw c.led_charged.ensures
    (tried_charges c.args.code.now c.args.core.now c.send_setter.new.core c.args.at c.sent_below-sent.result c.receiver_below-receiver.result c.args.send.now.kind
    c.send_setter.result c.send_setter.ensures))
