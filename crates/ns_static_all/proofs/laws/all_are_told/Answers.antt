use Rattle.ns_static_all.proofs.First.{all_are_told}
use Rattle.ns_static_all.proofs.laws.all_are_told.Goals as goal

pub returns : goal.returns
returns c = all_are_told
