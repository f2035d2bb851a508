use Rattle.ns_machine_frames.proofs.Room.{entering_keeps, others_keep}
use Rattle.ns_machine_frames.proofs.laws.frames_have_room.Goals as goal

pub returns-clause-entering : goal.returns-clause-entering
returns-clause-entering c = entering_keeps

pub returns-clause-others : goal.returns-clause-others
returns-clause-others c = others_keep
