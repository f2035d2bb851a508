use Rattle.std.proofs.Common.{subst}
use Rattle.ns_find.specs.declared.found.Found.TheVariants.{Kernel}
use Rattle.ns_machine_core.specs.declared.led.Led.TheVariants.{Charged}
use Rattle.ns_machine_core.specs.declared.state.Core.{Core}
use Rattle.ns_machine_quick.specs.Below.{BelowLeads}
use Rattle.ns_machine_quick.proofs.Below.{read_can, read_finds, read_leads}
use Rattle.ns_machine_quick.proofs.giving.do_row.Goals as goal

pub send_comparison-requires-clause-can : goal.send_comparison-requires-clause-can
send_comparison-requires-clause-can c =
    read_can c.args.code.now c.args.core.now c.args.at c.args.send.now c.sent_below-sent.result c.receiver_below-receiver.result c.sent_below-sent.ensures
    c.receiver_below-receiver.ensures c.requires.can

pub send_comparison-requires-clause-finds : goal.send_comparison-requires-clause-finds
send_comparison-requires-clause-finds c =
    read_finds c.args.code.now c.args.core.now c.args.at c.args.send.now c.sent_below-sent.result c.receiver_below-receiver.result c.sent_below-sent.ensures
    c.receiver_below-receiver.ensures (Kernel c.args.number) c.requires.finds

pub returns-in-Some : goal.returns-in-Some
returns-in-Some c =
    read_leads c.args.code.now c.args.core.now c.args.at c.args.send.now c.sent_below-sent.result c.receiver_below-receiver.result c.sent_below-sent.ensures
    c.receiver_below-receiver.ensures c.send_comparison.new.core (Charged c.in-Some.to) c.in-Some.ensures

pub returns-in-None : goal.returns-in-None
returns-in-None c =
    subst (λ (core : Core). BelowLeads c.args.code.now core c.args.at c.args.send.now c.do_other_row.new.core c.do_other_row.result)
    c.in-None.ensures c.do_other_row.ensures
