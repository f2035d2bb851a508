use Rattle.ns_facets.specs.laws.Lawful.{rows_lawful}
use Rattle.ns_facets.proofs.laws.rows_keep_lawful.Goals as goal

pub returns : goal.returns
returns c = rows_lawful
