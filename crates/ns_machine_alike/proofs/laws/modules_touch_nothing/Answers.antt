use Rattle.ns_machine_alike.proofs.Modules.{modules_touch}
use Rattle.ns_machine_alike.proofs.laws.modules_touch_nothing.Goals as goal

pub returns : goal.returns
returns c code grants = modules_touch code grants (c.sends_stay_in_reach.ensures code grants)
