use Rattle.ns_moves.proofs.Keeping.{superclass_there}
use Rattle.ns_moves.proofs.finding.superclasses_are_there.Goals as goal

pub returns : goal.returns
returns c = superclass_there
