use Rattle.ns_machine_thaw.proofs.Stacked.{PutSoFar}
use Rattle.ns_machine_thaw.proofs.frames.put_frames.Given as goal

abbrev pub invariant-frames : goal.invariant-frames
invariant-frames l = PutSoFar l.code l.first l.waits l.frames l.number l.part l.fn.stack l.stack l.at
