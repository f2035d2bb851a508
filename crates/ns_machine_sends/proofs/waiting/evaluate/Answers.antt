use Rattle.ns_machine_sends.specs.Going.{arguments_in}
use Rattle.ns_machine_sends.proofs.Awaited.{valid_there, stand_there, waiting, place_fits, place_left, place_waiting, waits_there, leads_there, move_there, evaluation_moves}
use Rattle.ns_machine_sends.proofs.waiting.evaluate.Goals as goal

pub make_place-requires-clause-stands : goal.make_place-requires-clause-stands
make_place-requires-clause-stands c = (stand_there c.args.code.now c.requires.0 c.args.core.now c.args.at c.args.sent c.args.block c.requires.1).0

pub make_place-requires-clause-waits : goal.make_place-requires-clause-waits
make_place-requires-clause-waits c = (stand_there c.args.code.now c.requires.0 c.args.core.now c.args.at c.args.sent c.args.block c.requires.1).1

pub make_place-requires-clause-room : goal.make_place-requires-clause-room
make_place-requires-clause-room c =
    place_fits c.args.code.now c.args.core.now c.args.at c.args.sent c.args.block (arguments_in c.args.core.now c.args.at c.args.sent)
    (waiting c.args.code.now c.requires.0 c.args.core.now c.args.at c.args.sent c.args.block (arguments_in c.args.core.now c.args.at c.args.sent)
    (valid_there c.args.code.now c.requires.0 c.args.core.now c.args.at c.args.sent c.args.block c.requires.1))
    c.requires.1.ready.rooms (stand_there c.args.code.now c.requires.0 c.args.core.now c.args.at c.args.sent c.args.block c.requires.1).1

pub enter_block-requires-clause-left : goal.enter_block-requires-clause-left
enter_block-requires-clause-left c =
    place_left c.args.code.now c.requires.0 c.args.core.now c.make_place.new.core c.args.at c.args.sent c.args.block (arguments_in c.args.core.now c.args.at c.args.sent)
    c.requires.1.ready
    (waiting c.args.code.now c.requires.0 c.args.core.now c.args.at c.args.sent c.args.block (arguments_in c.args.core.now c.args.at c.args.sent)
    (valid_there c.args.code.now c.requires.0 c.args.core.now c.args.at c.args.sent c.args.block c.requires.1))
    c.make_place.ensures

pub enter_block-requires-clause-is : goal.enter_block-requires-clause-is
enter_block-requires-clause-is c =
    waits_there c.args.code.now c.args.core.now c.make_place.new.core c.args.at c.args.sent c.args.block c.make_place.ensures
    (place_waiting c.args.code.now c.requires.0 c.args.core.now c.make_place.new.core c.args.at c.args.sent c.args.block
    (arguments_in c.args.core.now c.args.at c.args.sent) c.requires.1.ready
    (waiting c.args.code.now c.requires.0 c.args.core.now c.args.at c.args.sent c.args.block (arguments_in c.args.core.now c.args.at c.args.sent)
    (valid_there c.args.code.now c.requires.0 c.args.core.now c.args.at c.args.sent c.args.block c.requires.1))
    c.make_place.ensures)

pub returns : goal.returns
returns c =
    evaluation_moves c.args.code.now c.requires.0 c.args.core.now c.make_place.new.core c.args.at c.args.sent c.args.block
    (arguments_in c.args.core.now c.args.at c.args.sent) c.requires.1.ready
    (waiting c.args.code.now c.requires.0 c.args.core.now c.args.at c.args.sent c.args.block (arguments_in c.args.core.now c.args.at c.args.sent)
    (valid_there c.args.code.now c.requires.0 c.args.core.now c.args.at c.args.sent c.args.block c.requires.1))
    c.make_place.ensures c.enter_block.new.core c.enter_block.result
    (leads_there c.args.code.now c.args.core.now c.make_place.new.core c.enter_block.new.core c.args.at c.args.sent c.args.block c.enter_block.result
    c.make_place.ensures c.enter_block.ensures)
    (move_there c.args.code.now c.requires.0 c.args.core.now c.args.at c.args.sent c.args.block c.requires.1)
