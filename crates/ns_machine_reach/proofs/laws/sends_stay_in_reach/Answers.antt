use Rattle.ns_machine_reach.proofs.Staying.{sends_stay}
use Rattle.ns_machine_reach.proofs.laws.sends_stay_in_reach.Goals as goal

pub returns : goal.returns
returns c code grants = sends_stay code grants (c.sends_of_a_host_are_valid.ensures code grants) (c.moves_stay_in_reach.ensures code grants)
