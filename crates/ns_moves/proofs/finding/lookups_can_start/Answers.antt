use Rattle.ns_world.specs.laws.Starts.{class_named}
use Rattle.ns_moves.proofs.FoundThere.{start_there}
use Rattle.ns_moves.proofs.finding.lookups_can_start.Goals as goal

pub returns-clause-start : goal.returns-clause-start
returns-clause-start c = start_there

pub returns-clause-class : goal.returns-clause-class
returns-clause-class c = class_named
