use Rattle.std.proofs.Common.{subst, Ok}
use Rattle.ns_world.specs.World.{WorldView}
use Rattle.ns_machine_frames.specs.Stack.{with_top}
use Rattle.ns_machine_core.specs.declared.state.Core.{Core}
use Rattle.ns_machine_core.specs.declared.state.Next.TheVariants.{On}
use Rattle.ns_machine_core.specs.Doing.{IsSettled}
use Rattle.ns_machine_quick.proofs.Slotted.{setter_there, setter_sends}
use Rattle.ns_machine_quick.proofs.slots.set.Goals as goal

pub store-requires : goal.store-requires
store-requires c =
    setter_there c.entries_are_inside.ensures.slots c.args.core.now.run.world.world c.args.code.now c.args.receiver c.args.holder c.args.word
    c.requires.can.lawful c.requires.suits.0 c.requires.suits.2

pub returns : goal.returns
returns c =
    setter_sends c.args.code.now c.args.core.now c.give.new.core c.args.at c.args.sent c.args.receiver c.args.word c.argument-value.result c.from.result.now
    (On c.give.result) c.requires.can c.from.ensures c.argument-value.ensures
    (subst (λ (world : WorldView). let stored : Core = record c.args.core.now { run = record c.args.core.now.run { world = world } } in
    IsSettled c.args.code.now stored (with_top c.args.sent.floor c.args.at) c.args.sent.site (Ok c.args.receiver) c.give.new.core (On c.give.result))
    c.store.ensures (c.give.ensures c.args.sent.site))
