use Rattle.ns_machine_core.specs.declared.state.Next.TheVariants as next
use Rattle.ns_machine_sends.specs.laws.Received.{kind_does}
use Rattle.ns_machine_quick.proofs.Received.{kind_answers}
use Rattle.ns_machine_quick.proofs.booleans.send_boolean.Goals as goal

pub returns-in-On : goal.returns-in-On
returns-in-On c =
    kind_does c.operands_are_taken.ensures.taken c.args.code.now c.args.core.now c.send_operands.new.core c.args.at c.args.sel c.args.argc c.args.place c.args.kind
    (next.On c.in-On.to) c.requires.can c.in-On.ensures

pub returns-in-Answered : goal.returns-in-Answered
returns-in-Answered c =
    kind_answers c.operands_are_taken.ensures.taken c.args.code.now c.args.core.now c.send_operands.new.core c.args.at c.args.sel c.args.argc c.args.place c.args.kind
    (next.On c.in-Answered.to) c.requires.can c.in-Answered.ensures
