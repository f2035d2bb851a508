use Rattle.ns_machine_sends.proofs.Awaited.{valid_kept, stand_kept, waiting, place_fits, place_left, place_waiting, waits_kept, leads_kept, move_kept, evaluation_moves}
use Rattle.ns_machine_sends.proofs.waiting.evaluate_kept.Goals as goal

pub make_place-requires-clause-stands : goal.make_place-requires-clause-stands
make_place-requires-clause-stands c = (stand_kept c.args.code.now c.requires.0 c.args.core.now c.args.at c.args.sent c.args.block c.requires.1).0

pub make_place-requires-clause-waits : goal.make_place-requires-clause-waits
make_place-requires-clause-waits c = (stand_kept c.args.code.now c.requires.0 c.args.core.now c.args.at c.args.sent c.args.block c.requires.1).1

pub make_place-requires-clause-room : goal.make_place-requires-clause-room
make_place-requires-clause-room c =
    place_fits c.args.code.now c.args.core.now c.args.at c.args.sent c.args.block c.args.core.now.arguments.items
    (waiting c.args.code.now c.requires.0 c.args.core.now c.args.at c.args.sent c.args.block c.args.core.now.arguments.items
    (valid_kept c.args.code.now c.requires.0 c.args.core.now c.args.at c.args.sent c.args.block c.requires.1))
    c.requires.1.ready.rooms (stand_kept c.args.code.now c.requires.0 c.args.core.now c.args.at c.args.sent c.args.block c.requires.1).1

pub enter_block_kept-requires-clause-left : goal.enter_block_kept-requires-clause-left
enter_block_kept-requires-clause-left c =
    place_left c.args.code.now c.requires.0 c.args.core.now c.make_place.new.core c.args.at c.args.sent c.args.block c.args.core.now.arguments.items
    c.requires.1.ready
    (waiting c.args.code.now c.requires.0 c.args.core.now c.args.at c.args.sent c.args.block c.args.core.now.arguments.items
    (valid_kept c.args.code.now c.requires.0 c.args.core.now c.args.at c.args.sent c.args.block c.requires.1))
    c.make_place.ensures

pub enter_block_kept-requires-clause-is : goal.enter_block_kept-requires-clause-is
enter_block_kept-requires-clause-is c =
    waits_kept c.args.code.now c.args.core.now c.make_place.new.core c.args.at c.args.sent c.args.block c.make_place.ensures
    (place_waiting c.args.code.now c.requires.0 c.args.core.now c.make_place.new.core c.args.at c.args.sent c.args.block
    c.args.core.now.arguments.items c.requires.1.ready
    (waiting c.args.code.now c.requires.0 c.args.core.now c.args.at c.args.sent c.args.block c.args.core.now.arguments.items
    (valid_kept c.args.code.now c.requires.0 c.args.core.now c.args.at c.args.sent c.args.block c.requires.1))
    c.make_place.ensures)

pub returns : goal.returns
returns c =
    evaluation_moves c.args.code.now c.requires.0 c.args.core.now c.make_place.new.core c.args.at c.args.sent c.args.block
    c.args.core.now.arguments.items c.requires.1.ready
    (waiting c.args.code.now c.requires.0 c.args.core.now c.args.at c.args.sent c.args.block c.args.core.now.arguments.items
    (valid_kept c.args.code.now c.requires.0 c.args.core.now c.args.at c.args.sent c.args.block c.requires.1))
    c.make_place.ensures c.enter_block_kept.new.core c.enter_block_kept.result
    (leads_kept c.args.code.now c.args.core.now c.make_place.new.core c.enter_block_kept.new.core c.args.at c.args.sent c.args.block c.enter_block_kept.result
    c.make_place.ensures c.enter_block_kept.ensures)
    (move_kept c.args.code.now c.requires.0 c.args.core.now c.args.at c.args.sent c.args.block c.requires.1)
