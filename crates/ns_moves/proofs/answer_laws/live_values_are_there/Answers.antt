use Rattle.ns_moves.proofs.Stepping.{live_there}
use Rattle.ns_moves.proofs.answer_laws.live_values_are_there.Goals as goal

pub returns : goal.returns
returns c = live_there
