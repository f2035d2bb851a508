use Rattle.ns_moves.specs.lemmas.Lasting.{block_lasts, array_lasts}
use Rattle.ns_moves.proofs.Lasting.{selector_lasts, state_lasts, method_lasts, size_lasts}
use Rattle.ns_moves.proofs.laws.what_waits_lasts.Goals as goal

pub returns-clause-selectors : goal.returns-clause-selectors
returns-clause-selectors c = selector_lasts

pub returns-clause-states : goal.returns-clause-states
returns-clause-states c = state_lasts

pub returns-clause-methods : goal.returns-clause-methods
returns-clause-methods c = method_lasts

pub returns-clause-blocks : goal.returns-clause-blocks
returns-clause-blocks c = block_lasts

pub returns-clause-arrays : goal.returns-clause-arrays
returns-clause-arrays c = array_lasts

pub returns-clause-sizes : goal.returns-clause-sizes
returns-clause-sizes c = size_lasts
