use Rattle.std.proofs.Common.{◌≡◌, true}
use Rattle.ns_actors.specs.Rounds.{at_rest}
use Rattle.ns_actors_rounds.proofs.Resting.{one_more_played, played_out}
use Rattle.ns_actors_rounds.proofs.rounds.play.Goals as goal

pub rounds-preserved : goal.rounds-preserved
rounds-preserved c = one_more_played c.args.actors.now c.rounds.actors c.round.new.actors c.in_ok-round.ensures c.rounds.invariant

pub returns : goal.returns
returns c =
    let rest : at_rest c.rounds.actors ≡ true = search in
    played_out c.rounds_come_to_rest.ensures.stay c.actors_come_to_rest.ensures c.args.actors.now c.rounds.actors c.keeps_to_letters.ensures c.rounds.invariant rest
