use Rattle.ns_json.proofs.Apart.{values_apart}
use Rattle.ns_json.proofs.laws.values_are_told_apart.Goals as goal

pub returns : goal.returns
returns c = values_apart
