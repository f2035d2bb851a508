use Rattle.ns_machine_core.proofs.Arrived.{method_begins}
use Rattle.ns_machine_core.proofs.arriving.begin.Goals as goal

pub begin-requires : goal.begin-requires
begin-requires c = c.requires.begins

pub returns : goal.returns
returns c =
    method_begins c.args.code.now c.args.core.now c.args.at c.begin.result c.begin.new.self c.args.looping c.requires c.begin.ensures.stood c.begin.ensures.laid
    c.begin.ensures.frames c.begin.ensures.values c.begin.ensures.room
