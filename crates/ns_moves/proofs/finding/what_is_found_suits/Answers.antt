use Rattle.ns_moves.specs.lemmas.Suiting.{found_suits}
use Rattle.ns_moves.proofs.FoundThere.{private_found, super_found}
use Rattle.ns_moves.proofs.finding.what_is_found_suits.Goals as goal

pub returns-clause-own : goal.returns-clause-own
returns-clause-own c = found_suits

pub returns-clause-private : goal.returns-clause-private
returns-clause-private c = private_found

pub returns-clause-above : goal.returns-clause-above
returns-clause-above c = super_found
