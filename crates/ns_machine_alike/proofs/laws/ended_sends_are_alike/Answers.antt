use Rattle.ns_machine_alike.proofs.Staying.{ended_alike}
use Rattle.ns_machine_alike.proofs.laws.ended_sends_are_alike.Goals as goal

pub returns : goal.returns
returns c code grants grants' =
    ended_alike code grants grants' (c.sends_are_alike.ensures code grants grants') (c.moves_add.ensures.moves code) (c.ended_runs_stay.ensures code)
