use Rattle.ns_machine_reach.proofs.Staying.{turns_stay}
use Rattle.ns_machine_reach.proofs.laws.turns_stay_in_reach.Goals as goal

pub returns : goal.returns
returns c code grants = turns_stay code grants (c.moves_stay_in_reach.ensures code grants)
