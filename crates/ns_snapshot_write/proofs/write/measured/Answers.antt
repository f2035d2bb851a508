use Rattle.std.proofs.Common.{arith}
use Rattle.ns_snapshot_write.proofs.Counts.{images_are_short, states_have_room}
use Rattle.ns_snapshot_write.proofs.write.measured.Goals as goal

pub written-requires-clause-image : goal.written-requires-clause-image
written-requires-clause-image c = images_are_short c.args.image.now c.args.frozen.now c.args.size c.args.most (omega arith) c.requires.within c.requires.size

pub written-requires-clause-room : goal.written-requires-clause-room
written-requires-clause-room c = states_have_room c.args.image.now c.args.frozen.now c.args.size c.args.most (omega arith) c.requires.within c.requires.size
