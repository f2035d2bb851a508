use Rattle.ns_machine_returns.proofs.Handed.{handed}
use Rattle.ns_machine_returns.proofs.answering.hand.Goals as goal

pub returns : goal.returns
returns c =
    handed c.values_are_delivered.ensures c.args.code.now c.args.core.now c.args.at c.deliver.result c.deliver.new.self c.args.value c.requires.can
    c.requires.some c.deliver.ensures.stood c.deliver.ensures.laid c.deliver.ensures.frames c.deliver.ensures.room
