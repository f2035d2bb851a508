use Rattle.ns_machine_thaw.proofs.Placed.{Writing}
use Rattle.ns_machine_thaw.proofs.places.put_sites.Given as goal

abbrev pub invariant-frames : goal.invariant-frames
invariant-frames l = Writing l.first l.frames l.number l.fn.places l.places
