use Rattle.ns_machine_sends.proofs.Awaited.{place_made}
use Rattle.ns_machine_sends.proofs.waiting.make_place.Goals as goal

pub returns : goal.returns
returns c =
    place_made c.args.code.now c.args.core.now c.args.at c.args.sent c.make_room.new.self c.requires.stands c.requires.waits c.make_room.ensures.used
    c.make_room.ensures.frames c.make_room.ensures.filled c.make_room.ensures.laid c.make_room.ensures.room
