use Rattle.ns_machine_alike.proofs.Premises.{reached_alike}
use Rattle.ns_machine_alike.proofs.laws.reached_values_are_alike.Goals as goal

pub returns : goal.returns
returns c = reached_alike
