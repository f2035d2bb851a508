use Rattle.ns_world.specs.laws.Changing.{chain_no_longer}
use Rattle.ns_world.proofs.laws.chains_end.Goals as goal

pub returns : goal.returns
returns c = chain_no_longer
