use Rattle.ns_machine_core.specs.declared.state.Next.TheVariants.{On}
use Rattle.ns_machine_quick.proofs.Slotted.{getter_there, getter_sends}
use Rattle.ns_machine_quick.proofs.slots.get.Goals as goal

pub word_of_object-value-requires : goal.word_of_object-value-requires
word_of_object-value-requires c =
    getter_there c.entries_are_inside.ensures.slots c.entries_are_inside.ensures.same c.args.core.now.run.world.world c.args.code.now c.args.receiver c.args.holder
    c.args.word c.requires.can.lawful c.requires.suits.0 c.requires.suits.2

pub returns : goal.returns
returns c =
    getter_sends c.args.code.now c.args.core.now c.give.new.core c.args.at c.args.sent c.args.receiver c.args.word c.word_of_object-value.result (On c.give.result)
    c.requires.can c.word_of_object-value.ensures (c.give.ensures c.args.sent.site)
