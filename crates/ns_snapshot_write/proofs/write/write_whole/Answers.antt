use Rattle.ns_snapshot_write.proofs.Counts.{fitting_states_have_room}
use Rattle.ns_snapshot_write.proofs.write.write_whole.Goals as goal

pub written-requires-clause-room : goal.written-requires-clause-room
written-requires-clause-room c = fitting_states_have_room c.args.frozen.now c.requires.fields
