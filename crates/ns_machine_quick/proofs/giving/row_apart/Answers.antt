use Rattle.ns_find.specs.declared.found.Found.TheVariants.{Kernel}
use Rattle.ns_machine_frames.specs.declared.registers.Registers.{Registers}
use Rattle.ns_machine_quick.proofs.Below.{read_can, read_finds, read_leads}
use Rattle.ns_machine_quick.proofs.Given.{tried_charges, tried_sends}
use Rattle.ns_machine_quick.proofs.giving.row_apart.Goals as goal

pub send_looping-requires-clause-can : goal.send_looping-requires-clause-can
send_looping-requires-clause-can c =
    let at : Registers = record { next = c.args.next; top = c.args.top; base = c.args.base } in
    read_can c.args.code.now c.args.core.now at c.args.send.now c.sent_below-sent.result c.receiver_below-receiver.result c.sent_below-sent.ensures
    c.receiver_below-receiver.ensures c.requires.can

pub send_looping-requires-clause-finds : goal.send_looping-requires-clause-finds
send_looping-requires-clause-finds c =
    let at : Registers = record { next = c.args.next; top = c.args.top; base = c.args.base } in
    read_finds c.args.code.now c.args.core.now at c.args.send.now c.sent_below-sent.result c.receiver_below-receiver.result c.sent_below-sent.ensures
    c.receiver_below-receiver.ensures (Kernel c.args.number) c.requires.finds

pub send_row-requires-clause-can : goal.send_row-requires-clause-can
send_row-requires-clause-can c =
    let at : Registers = record { next = c.args.next; top = c.args.top; base = c.args.base } in
    read_can c.args.code.now c.args.core.now at c.args.send.now c.sent_below-sent.result c.receiver_below-receiver.result c.sent_below-sent.ensures
    c.receiver_below-receiver.ensures c.requires.can

pub send_row-requires-clause-finds : goal.send_row-requires-clause-finds
send_row-requires-clause-finds c =
    let at : Registers = record { next = c.args.next; top = c.args.top; base = c.args.base } in
    read_finds c.args.code.now c.args.core.now at c.args.send.now c.sent_below-sent.result c.receiver_below-receiver.result c.sent_below-sent.ensures
    c.receiver_below-receiver.ensures (Kernel c.args.number) c.requires.finds

pub returns-then-loops : goal.returns-then-loops
returns-then-loops c =
    let at : Registers = record { next = c.args.next; top = c.args.top; base = c.args.base } in
    read_leads c.args.code.now c.args.core.now at c.args.send.now c.sent_below-sent.result c.receiver_below-receiver.result c.sent_below-sent.ensures
    c.receiver_below-receiver.ensures c.send_looping.new.core c.led_on.result
    (rw c.led_on.ensures
    (tried_sends c.args.code.now c.args.core.now c.send_looping.new.core at c.sent_below-sent.result c.receiver_below-receiver.result c.args.send.now.kind
    c.send_looping.result c.send_looping.ensures))

pub returns : goal.returns
returns c =
    let at : Registers = record { next = c.args.next; top = c.args.top; base = c.args.base } in
    read_leads c.args.code.now c.args.core.now at c.args.send.now c.sent_below-sent.result c.receiver_below-receiver.result c.sent_below-sent.ensures
    c.receiver_below-receiver.ensures c.send_row.new.core c.led_charged.result
    (rw c.led_charged.ensures
    (tried_charges c.args.code.now c.args.core.now c.send_row.new.core at c.sent_below-sent.result c.receiver_below-receiver.result c.args.send.now.kind
    c.send_row.result c.send_row.ensures))
