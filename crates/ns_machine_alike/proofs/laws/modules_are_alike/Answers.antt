use Rattle.ns_machine_alike.proofs.Modules.{modules_are}
use Rattle.ns_machine_alike.proofs.laws.modules_are_alike.Goals as goal

pub returns : goal.returns
returns c = modules_are
