use Rattle.ns_machine_alike.proofs.Modules.{modules_come}
use Rattle.ns_machine_alike.proofs.laws.modules_come_to_the_same.Goals as goal

pub returns : goal.returns
returns c code grants grants' = modules_come code grants grants' (c.sends_are_alike.ensures code grants grants')
