use Rattle.ns_world.specs.laws.Changing.{found_new, found_old, chain_old}
use Rattle.ns_world.proofs.laws.making_changes_no_other.Goals as goal

pub returns-clause-here : goal.returns-clause-here
returns-clause-here c = found_new

pub returns-clause-others : goal.returns-clause-others
returns-clause-others c = found_old

pub returns-clause-chains : goal.returns-clause-chains
returns-clause-chains c = chain_old
