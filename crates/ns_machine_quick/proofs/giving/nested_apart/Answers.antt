use Rattle.ns_find.specs.declared.found.Found.TheVariants.{Nested}
use Rattle.ns_machine_frames.specs.declared.registers.Registers.{Registers}
use Rattle.ns_machine_core.specs.Tried.{led_charged}
use Rattle.ns_machine_quick.proofs.Below.{read_can, read_finds, read_leads}
use Rattle.ns_machine_quick.proofs.Given.{tried_charges}
use Rattle.ns_machine_quick.proofs.giving.nested_apart.Goals as goal

pub send_nested-requires-clause-can : goal.send_nested-requires-clause-can
send_nested-requires-clause-can c =
    let at : Registers = record { next = c.args.next; top = c.args.top; base = c.args.base } in
    read_can c.args.code.now c.args.core.now at c.args.send.now c.sent_below-sent.result c.receiver_below-receiver.result c.sent_below-sent.ensures
    c.receiver_below-receiver.ensures c.requires.can

pub send_nested-requires-clause-finds : goal.send_nested-requires-clause-finds
send_nested-requires-clause-finds c =
    let at : Registers = record { next = c.args.next; top = c.args.top; base = c.args.base } in
    read_finds c.args.code.now c.args.core.now at c.args.send.now c.sent_below-sent.result c.receiver_below-receiver.result c.sent_below-sent.ensures
    c.receiver_below-receiver.ensures (Nested c.args.class c.args.holder) c.requires.finds

pub returns : goal.returns
returns c =
    let at : Registers = record { next = c.args.next; top = c.args.top; base = c.args.base } in
    read_leads c.args.code.now c.args.core.now at c.args.send.now c.sent_below-sent.result c.receiver_below-receiver.result c.sent_below-sent.ensures
    c.receiver_below-receiver.ensures c.send_nested.new.core (led_charged c.send_nested.result)
    (tried_charges c.args.code.now c.args.core.now c.send_nested.new.core at c.sent_below-sent.result c.receiver_below-receiver.result c.args.send.now.kind
    c.send_nested.result c.send_nested.ensures)
