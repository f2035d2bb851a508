use Rattle.ns_machine_thaw.proofs.Entered.{has_entered}
use Rattle.ns_machine_thaw.proofs.entering.enter_on.Goals as goal

pub returns : goal.returns
returns c =
    has_entered c.args.stack.now c.make_room.new.self c.push_values-above.new.stack c.args.at c.push_values-above.result c.args.locals.now c.requires.laid
    c.make_room.ensures.frames c.make_room.ensures.used c.make_room.ensures.room c.push_values-above.ensures.frames c.push_values-above.ensures.used
    c.push_values-above.ensures.room c.push_values-above.ensures.laid c.push_values-above.ensures.at c.enter.new.self c.enter.result c.args.kept c.args.height
    c.requires.floor c.requires.base c.requires.behind c.enter.ensures
