use Rattle.ns_static_all.proofs.First.{first_is_least}
use Rattle.ns_static_all.proofs.laws.first_is_least.Goals as goal

pub returns : goal.returns
returns c = first_is_least
