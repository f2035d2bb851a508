use Rattle.ns_machine_alike.proofs.Renamed.{renames_on}
use Rattle.ns_machine_alike.proofs.laws.renamings_go_on.Goals as goal

pub returns : goal.returns
returns c = renames_on
