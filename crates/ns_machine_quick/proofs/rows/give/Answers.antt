use Rattle.std.proofs.Common.{arith}
use Rattle.ns_machine_core.specs.declared.state.Next.TheVariants.{On}
use Rattle.ns_machine_frames.specs.Stack.{with_top}
use Rattle.ns_machine_core.specs.Shown.{progress_in}
use Rattle.ns_machine_core.specs.laws.Charged.{given_on_top}
use Rattle.ns_machine_quick.proofs.Valued.{row_sends}
use Rattle.ns_machine_quick.proofs.rows.give.Goals as goal

pub returns-clause-sends : goal.returns-clause-sends
returns-clause-sends c activation =
    row_sends c.args.code.now c.args.core.now c.give.new.core c.args.at c.args.sent c.args.receiver c.args.kind c.args.row c.args.value (On c.give.result)
    activation c.requires.can c.requires.finds c.requires.gives (c.give.ensures c.args.sent.site)

pub returns-clause-stays : goal.returns-clause-stays
returns-clause-stays c =
    given_on_top c.args.code.now 0 c.args.core.now c.give.new.core (with_top c.args.sent.floor c.args.at) c.give.result c.args.value
    (progress_in c.args.core.now) (omega arith) (c.give.ensures c.args.sent.site).state
