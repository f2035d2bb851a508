use Rattle.std.proofs.Common.{arith}
use Rattle.ns_machine_returns.proofs.Handed.{handed}
use Rattle.ns_machine_returns.proofs.handing.hand.Goals as goal

pub returns : goal.returns
returns c =
    let count = c.count.ensures in
    let some = c.if-count-eq0.false in
    handed c.values_are_delivered.ensures c.args.code.now c.args.core.now c.args.at c.deliver.result c.deliver.new.self c.args.value c.requires.can
    (omega (arith, count, some)) c.deliver.ensures.stood c.deliver.ensures.laid c.deliver.ensures.frames c.deliver.ensures.room
