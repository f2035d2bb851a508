use Rattle.ns_actors_calls.proofs.Ready.{AreExpecting}
use Rattle.ns_actors_calls.proofs.posting.expect.Given as goal

abbrev pub invariant-boxes : goal.invariant-boxes
invariant-boxes l = AreExpecting l.letters l.initial.actors l.actors l.number
