use Rattle.ns_machine_turns.proofs.Resent.{sending_stands, sending_known, place_fits, sending_set, can_send, room_stays, own_set, sending_moves}
use Rattle.ns_machine_turns.proofs.resending.send_waiting.Goals as goal

pub make_place-requires-clause-stands : goal.make_place-requires-clause-stands
make_place-requires-clause-stands c = c.requires.can.ready.stand.0

pub make_place-requires-clause-waits : goal.make_place-requires-clause-waits
make_place-requires-clause-waits c =
    (sending_stands c.args.code.now c.requires.can.grants c.args.core.now c.args.at c.args.sent c.args.receiver c.args.sel c.requires.waits c.requires.first
    c.requires.can.ready).waits

pub make_place-requires-clause-room : goal.make_place-requires-clause-room
make_place-requires-clause-room c =
    place_fits c.args.code.now c.args.core.now c.args.at c.args.sent c.args.receiver c.args.sel c.args.core.now.arguments.items
    (sending_known c.args.code.now c.requires.can.grants (c.valid_frames_are_framed.ensures.waiting c.args.code.now c.requires.can.grants) c.args.core.now c.args.at
    c.args.sent c.args.receiver c.args.sel c.requires.waits c.requires.first c.requires.can.ready)
    (sending_stands c.args.code.now c.requires.can.grants c.args.core.now c.args.at c.args.sent c.args.receiver c.args.sel c.requires.waits c.requires.first
    c.requires.can.ready).waits

pub send_to-requires-clause-can : goal.send_to-requires-clause-can
send_to-requires-clause-can c =
    can_send c.args.code.now c.args.core.now c.make_place.new.core c.args.at c.args.sent c.args.receiver c.args.sel c.args.core.now.arguments.items
    (sending_known c.args.code.now c.requires.can.grants (c.valid_frames_are_framed.ensures.waiting c.args.code.now c.requires.can.grants) c.args.core.now c.args.at
    c.args.sent c.args.receiver c.args.sel c.requires.waits c.requires.first c.requires.can.ready)
    (sending_set c.args.code.now c.args.core.now c.make_place.new.core c.args.at c.args.sent c.make_place.ensures)

pub send_to-requires-clause-room : goal.send_to-requires-clause-room
send_to-requires-clause-room c =
    room_stays c.args.code.now c.args.core.now c.make_place.new.core c.args.at c.args.sent c.args.receiver c.args.sel c.args.core.now.arguments.items
    (sending_known c.args.code.now c.requires.can.grants (c.valid_frames_are_framed.ensures.waiting c.args.code.now c.requires.can.grants) c.args.core.now c.args.at
    c.args.sent c.args.receiver c.args.sel c.requires.waits c.requires.first c.requires.can.ready)
    (sending_set c.args.code.now c.args.core.now c.make_place.new.core c.args.at c.args.sent c.make_place.ensures)

pub send_to-requires-clause-own : goal.send_to-requires-clause-own
send_to-requires-clause-own c =
    own_set c.args.code.now c.args.core.now c.make_place.new.core c.args.at c.args.sent c.args.receiver c.args.sel c.args.core.now.arguments.items
    (sending_known c.args.code.now c.requires.can.grants (c.valid_frames_are_framed.ensures.waiting c.args.code.now c.requires.can.grants) c.args.core.now c.args.at
    c.args.sent c.args.receiver c.args.sel c.requires.waits c.requires.first c.requires.can.ready)
    (sending_set c.args.code.now c.args.core.now c.make_place.new.core c.args.at c.args.sent c.make_place.ensures) c.args.own c.requires.own

pub returns : goal.returns
returns c =
    sending_moves c.args.code.now c.requires.can.grants (c.valid_frames_are_framed.ensures.waiting c.args.code.now c.requires.can.grants) c.args.core.now
    c.make_place.new.core c.send_to.new.core c.args.at c.args.sent c.args.receiver c.args.sel c.send_to.result c.requires.waits c.requires.first
    c.requires.can.ready c.make_place.ensures c.send_to.ensures
