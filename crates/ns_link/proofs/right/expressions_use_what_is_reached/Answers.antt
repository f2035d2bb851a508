use Rattle.ns_link.specs.Reached.{IsThereButBlocks}
use Rattle.ns_link.proofs.Expressions.{expr_has}
use Rattle.ns_link.proofs.right.expressions_use_what_is_reached.Goals as goal

pub returns : goal.returns
returns c program number body here next expr reaches e texts = expr_has (IsThereButBlocks program number body) here reaches expr next e texts
