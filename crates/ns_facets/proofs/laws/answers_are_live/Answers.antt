use Rattle.ns_facets.specs.laws.Living.{rows_live}
use Rattle.ns_facets.proofs.laws.answers_are_live.Goals as goal

pub returns : goal.returns
returns c = rows_live
