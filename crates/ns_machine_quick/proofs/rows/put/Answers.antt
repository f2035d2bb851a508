use Rattle.std.proofs.Common.{subst, Ok}
use Rattle.ns_world.specs.World.{WorldView}
use Rattle.ns_machine_frames.specs.Stack.{with_top}
use Rattle.ns_machine_core.specs.declared.state.Core.{Core}
use Rattle.ns_machine_core.specs.declared.state.Next.TheVariants.{On}
use Rattle.ns_machine_core.specs.Doing.{IsSettled}
use Rattle.ns_machine_quick.proofs.Slotted.{stored_on_top}
use Rattle.ns_machine_quick.proofs.Valued.{put_sends}
use Rattle.ns_machine_quick.proofs.rows.put.Goals as goal

pub returns-clause-sends : goal.returns-clause-sends
returns-clause-sends c activation =
    put_sends c.args.code.now c.args.core.now c.give.new.core c.args.at c.args.sent c.args.receiver c.args.kind c.args.place c.from.result.now
    c.argument-value.result (On c.give.result) activation c.requires.can c.requires.finds c.requires.names c.from.ensures c.argument-value.ensures
    (subst (λ (world : WorldView). let stored : Core = record c.args.core.now { run = record c.args.core.now.run { world = world } } in
    IsSettled c.args.code.now stored (with_top c.args.sent.floor c.args.at) c.args.sent.site (Ok c.argument-value.result) c.give.new.core (On c.give.result))
    c.store.ensures (c.give.ensures c.args.sent.site))

pub returns-clause-stays : goal.returns-clause-stays
returns-clause-stays c =
    stored_on_top c.args.code.now c.args.core.now c.give.new.core (with_top c.args.sent.floor c.args.at) c.give.result c.args.sent.site c.args.receiver c.args.place
    c.argument-value.result c.argument-value.result
    (subst (λ (world : WorldView). let stored : Core = record c.args.core.now { run = record c.args.core.now.run { world = world } } in
    IsSettled c.args.code.now stored (with_top c.args.sent.floor c.args.at) c.args.sent.site (Ok c.argument-value.result) c.give.new.core (On c.give.result))
    c.store.ensures (c.give.ensures c.args.sent.site))
