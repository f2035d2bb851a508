use Rattle.ns_moves.specs.lemmas.RowsSuit.{value_suits, above_suits, own_suits}
use Rattle.ns_moves.proofs.laws.rows_that_are_found_suit.Goals as goal

pub returns-clause-value : goal.returns-clause-value
returns-clause-value c = value_suits

pub returns-clause-above : goal.returns-clause-above
returns-clause-above c = above_suits

pub returns-clause-own : goal.returns-clause-own
returns-clause-own c = own_suits
