use Rattle.ns_actors_rounds.proofs.Resting.{actors_rest}
use Rattle.ns_actors_rounds.proofs.laws.actors_come_to_rest.Goals as goal

pub returns : goal.returns
returns c = actors_rest c.rounds_leave_less.ensures.lower c.rounds_leave_less.ensures.keep c.rounds_come_to_rest.ensures.end
