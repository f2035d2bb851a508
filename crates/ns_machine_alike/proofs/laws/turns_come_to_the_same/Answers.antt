use Rattle.ns_machine_alike.proofs.Underway.{turns_to_the_same}
use Rattle.ns_machine_alike.proofs.laws.turns_come_to_the_same.Goals as goal

pub returns : goal.returns
returns c code grants grants' =
    turns_to_the_same code grants grants' (c.sends_are_alike.ensures code grants grants') c.renamings_go_on.ensures (c.moves_add.ensures.moves code)
