use Rattle.ns_machine_returns.proofs.PartBegun.{part_begins}
use Rattle.ns_machine_returns.proofs.parts.enter_part.Goals as goal

pub returns : goal.returns
returns c =
    part_begins c.frames_begin.ensures.parts c.frames_have_room.ensures.entering c.args.code.now c.args.core.now c.args.at c.enter_body.result c.enter_body.new.self
    c.args.first c.args.site c.args.entered c.shape_of-shape.result c.shape_of-shape.ensures c.requires c.enter_body.ensures
