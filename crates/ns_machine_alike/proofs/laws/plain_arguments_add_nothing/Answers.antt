use Rattle.ns_machine_alike.proofs.Premises.{plain_alike}
use Rattle.ns_machine_alike.proofs.laws.plain_arguments_add_nothing.Goals as goal

pub returns : goal.returns
returns c = plain_alike
