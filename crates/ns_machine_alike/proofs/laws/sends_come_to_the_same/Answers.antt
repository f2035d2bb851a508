use Rattle.ns_machine_alike.proofs.Staying.{come_to_the_same}
use Rattle.ns_machine_alike.proofs.laws.sends_come_to_the_same.Goals as goal

pub returns : goal.returns
returns c code grants grants' = come_to_the_same code grants grants' (c.sends_are_alike.ensures code grants grants')
