use Rattle.ns_parse.proofs.Whole.{spelled_once}
use Rattle.ns_parse.proofs.laws.one_tree_is_spelled.Goals as goal

pub returns : goal.returns
returns c = spelled_once
