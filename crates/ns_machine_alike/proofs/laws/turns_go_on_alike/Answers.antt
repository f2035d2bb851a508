use Rattle.ns_machine_alike.proofs.Underway.{turns_go_on}
use Rattle.ns_machine_alike.proofs.laws.turns_go_on_alike.Goals as goal

pub returns : goal.returns
returns c code grants = turns_go_on code grants (c.turns_come_to_the_same.ensures code grants)
