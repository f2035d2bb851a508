use Rattle.ns_moves.proofs.FoundThere.{place_there, place_declared, holder_there}
use Rattle.ns_moves.proofs.finding.enclosing_objects_are_there.Goals as goal

pub returns-clause-levels : goal.returns-clause-levels
returns-clause-levels c = place_there

pub returns-clause-holder : goal.returns-clause-holder
returns-clause-holder c = holder_there

pub returns-clause-declared : goal.returns-clause-declared
returns-clause-declared c = place_declared
