use Rattle.ns_actors.proofs.Reaching.{steps_within}
use Rattle.ns_actors.proofs.laws.steps_are_within.Goals as goal

pub returns : goal.returns
returns c = steps_within
