use Rattle.std.proofs.Common.{◌∙◌}
use Rattle.ns_find.specs.declared.found.Found.TheVariants.{Method}
use Rattle.ns_machine_frames.specs.declared.registers.Registers.{Registers}
use Rattle.ns_machine_core.specs.Tried.{led_on}
use Rattle.ns_machine_quick.proofs.Below.{read_can, read_finds, read_leads}
use Rattle.ns_machine_quick.proofs.Given.{tried_sends}
use Rattle.ns_machine_quick.proofs.giving.method_apart.Goals as goal

pub send_method-requires-clause-can : goal.send_method-requires-clause-can
send_method-requires-clause-can c =
    let at : Registers = record { next = c.args.next; top = c.args.top; base = c.args.base } in
    read_can c.args.code.now c.args.core.now at c.args.send.now c.named-sent.result c.receiver_below-receiver.result (c.named-sent.ensures ∙ c.sent_below-below.ensures)
    c.receiver_below-receiver.ensures c.requires.can

pub send_method-requires-clause-finds : goal.send_method-requires-clause-finds
send_method-requires-clause-finds c =
    let at : Registers = record { next = c.args.next; top = c.args.top; base = c.args.base } in
    read_finds c.args.code.now c.args.core.now at c.args.send.now c.named-sent.result c.receiver_below-receiver.result (c.named-sent.ensures ∙ c.sent_below-below.ensures)
    c.receiver_below-receiver.ensures (Method c.args.body c.args.holder) c.requires.finds

pub returns : goal.returns
returns c =
    let at : Registers = record { next = c.args.next; top = c.args.top; base = c.args.base } in
    read_leads c.args.code.now c.args.core.now at c.args.send.now c.named-sent.result c.receiver_below-receiver.result (c.named-sent.ensures ∙ c.sent_below-below.ensures)
    c.receiver_below-receiver.ensures c.send_method.new.core (led_on c.send_method.result)
    (tried_sends c.args.code.now c.args.core.now c.send_method.new.core at c.named-sent.result c.receiver_below-receiver.result c.args.send.now.kind
    c.send_method.result c.send_method.ensures)
