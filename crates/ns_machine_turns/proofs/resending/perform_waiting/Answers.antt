use Rattle.std.proofs.Common.{subst}
use Rattle.ns_world.specs.declared.value.Value.TheVariants.{Ref}
use Rattle.ns_kdata.specs.Arguments.{items_of}
use Rattle.ns_machine_frames.specs.declared.frame.Pending.TheVariants as pending
use Rattle.ns_machine_core.specs.declared.state.Core.{Core}
use Rattle.ns_machine_sends.specs.Waiting.{HasMadePlace}
use Rattle.ns_machine_turns.proofs.Resent.{valid_there, performing_stands, performing_known, array_there, items_fit, place_fits, performing_set, can_send, room_stays, own_set, performing_moves}
use Rattle.ns_machine_turns.proofs.resending.perform_waiting.Goals as goal

pub keep_items-requires-clause-there : goal.keep_items-requires-clause-there
keep_items-requires-clause-there c =
    array_there c.args.core.now.run.world.world.cells c.args.array
    (valid_there c.args.code.now c.requires.can.grants c.args.core.now c.args.at
    (pending.Performing c.args.receiver c.args.sel c.args.array c.args.sent.site c.args.sent.floor) c.requires.waits c.requires.can.ready).1.1

pub keep_items-requires-clause-room : goal.keep_items-requires-clause-room
keep_items-requires-clause-room c =
    items_fit c.args.code.now (c.arguments_are_few.ensures c.args.code.now) c.args.core.now c.args.at c.args.sent c.args.receiver c.args.sel (items_of c.args.core.now.run.world.world.cells (Ref c.args.array))
    (performing_known c.args.code.now c.requires.can.grants (c.valid_frames_are_framed.ensures.waiting c.args.code.now c.requires.can.grants) c.args.core.now c.args.at
    c.args.sent c.args.receiver c.args.sel c.args.array c.requires.waits c.requires.first c.requires.can.ready)

pub make_place-requires-clause-stands : goal.make_place-requires-clause-stands
make_place-requires-clause-stands c = rw c.keep_items.ensures c.requires.can.ready.stand.0

pub make_place-requires-clause-waits : goal.make_place-requires-clause-waits
make_place-requires-clause-waits c =
    rw c.keep_items.ensures
    (performing_stands c.args.code.now c.requires.can.grants c.args.core.now c.args.at c.args.sent c.args.receiver c.args.sel c.args.array c.requires.waits
    c.requires.first c.requires.can.ready).waits

pub make_place-requires-clause-room : goal.make_place-requires-clause-room
make_place-requires-clause-room c =
    rw c.keep_items.ensures
    (place_fits c.args.code.now c.args.core.now c.args.at c.args.sent c.args.receiver c.args.sel (items_of c.args.core.now.run.world.world.cells (Ref c.args.array))
    (performing_known c.args.code.now c.requires.can.grants (c.valid_frames_are_framed.ensures.waiting c.args.code.now c.requires.can.grants) c.args.core.now c.args.at
    c.args.sent c.args.receiver c.args.sel c.args.array c.requires.waits c.requires.first c.requires.can.ready)
    (performing_stands c.args.code.now c.requires.can.grants c.args.core.now c.args.at c.args.sent c.args.receiver c.args.sel c.args.array c.requires.waits
    c.requires.first c.requires.can.ready).waits)

pub send_to-requires-clause-can : goal.send_to-requires-clause-can
send_to-requires-clause-can c =
    can_send c.args.code.now c.args.core.now c.make_place.new.core c.args.at c.args.sent c.args.receiver c.args.sel (items_of c.args.core.now.run.world.world.cells (Ref c.args.array))
    (performing_known c.args.code.now c.requires.can.grants (c.valid_frames_are_framed.ensures.waiting c.args.code.now c.requires.can.grants) c.args.core.now c.args.at
    c.args.sent c.args.receiver c.args.sel c.args.array c.requires.waits c.requires.first c.requires.can.ready)
    (performing_set c.args.code.now c.args.core.now c.make_place.new.core c.args.at c.args.sent (items_of c.args.core.now.run.world.world.cells (Ref c.args.array)) (subst (λ (core : Core). HasMadePlace c.args.code.now core c.args.at c.args.sent c.make_place.new.core) c.keep_items.ensures c.make_place.ensures))

pub send_to-requires-clause-room : goal.send_to-requires-clause-room
send_to-requires-clause-room c =
    room_stays c.args.code.now c.args.core.now c.make_place.new.core c.args.at c.args.sent c.args.receiver c.args.sel (items_of c.args.core.now.run.world.world.cells (Ref c.args.array))
    (performing_known c.args.code.now c.requires.can.grants (c.valid_frames_are_framed.ensures.waiting c.args.code.now c.requires.can.grants) c.args.core.now c.args.at
    c.args.sent c.args.receiver c.args.sel c.args.array c.requires.waits c.requires.first c.requires.can.ready)
    (performing_set c.args.code.now c.args.core.now c.make_place.new.core c.args.at c.args.sent (items_of c.args.core.now.run.world.world.cells (Ref c.args.array)) (subst (λ (core : Core). HasMadePlace c.args.code.now core c.args.at c.args.sent c.make_place.new.core) c.keep_items.ensures c.make_place.ensures))

pub send_to-requires-clause-own : goal.send_to-requires-clause-own
send_to-requires-clause-own c =
    own_set c.args.code.now c.args.core.now c.make_place.new.core c.args.at c.args.sent c.args.receiver c.args.sel (items_of c.args.core.now.run.world.world.cells (Ref c.args.array))
    (performing_known c.args.code.now c.requires.can.grants (c.valid_frames_are_framed.ensures.waiting c.args.code.now c.requires.can.grants) c.args.core.now c.args.at
    c.args.sent c.args.receiver c.args.sel c.args.array c.requires.waits c.requires.first c.requires.can.ready)
    (performing_set c.args.code.now c.args.core.now c.make_place.new.core c.args.at c.args.sent (items_of c.args.core.now.run.world.world.cells (Ref c.args.array)) (subst (λ (core : Core). HasMadePlace c.args.code.now core c.args.at c.args.sent c.make_place.new.core) c.keep_items.ensures c.make_place.ensures)) c.args.own c.requires.own

pub returns : goal.returns
returns c =
    performing_moves c.args.code.now c.requires.can.grants (c.valid_frames_are_framed.ensures.waiting c.args.code.now c.requires.can.grants) c.args.core.now
    c.make_place.new.core c.send_to.new.core c.args.at c.args.sent c.args.receiver c.args.sel c.args.array c.send_to.result c.requires.waits c.requires.first
    c.requires.can.ready (subst (λ (core : Core). HasMadePlace c.args.code.now core c.args.at c.args.sent c.make_place.new.core) c.keep_items.ensures c.make_place.ensures) c.send_to.ensures
