use Rattle.ns_machine_alike.proofs.Underway.{turns_alike}
use Rattle.ns_machine_alike.proofs.laws.turns_are_alike.Goals as goal

pub returns : goal.returns
returns c code grants grants' = turns_alike code grants grants' (c.turns_come_to_the_same.ensures code grants grants') (c.turns_add.ensures.one code)
