use Rattle.ns_parse.proofs.Whole.{parsed_trees}
use Rattle.ns_parse.proofs.laws.what_is_spelled_is_parsed.Goals as goal

pub returns : goal.returns
returns c = parsed_trees
