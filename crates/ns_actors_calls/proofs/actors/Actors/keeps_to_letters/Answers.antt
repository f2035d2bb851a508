use Rattle.std.proofs.Common.{subst}
use Rattle.ns_actors.specs.Stated.{AreActors}
use Rattle.ns_actors_calls.proofs.actors.Actors.keeps_to_letters.Goals as goal

pub returns : goal.returns
returns c = subst AreActors c.self.view_is c.self.invariant
