use Rattle.ns_machine_core.proofs.Arrived.{entered_by}
use Rattle.ns_machine_core.proofs.arriving.enter.Goals as goal

pub returns : goal.returns
returns c =
    entered_by c.frames_begin.ensures.bodies c.frames_have_room.ensures.entering c.args.code.now c.args.core.now c.args.at c.enter_body.result c.enter_body.new.self
    c.args.call c.args.exit c.args.entered c.args.shape c.requires.shape c.requires.leaving c.requires.can c.enter_body.ensures
