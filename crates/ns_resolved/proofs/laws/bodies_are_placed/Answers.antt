use Rattle.ns_resolved.proofs.Declared.{bodies_placed}
use Rattle.ns_resolved.proofs.laws.bodies_are_placed.Goals as goal

pub returns : goal.returns
returns c = bodies_placed
