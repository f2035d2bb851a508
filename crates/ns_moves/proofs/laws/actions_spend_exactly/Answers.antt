use Rattle.ns_moves.specs.laws.Spending.{action_spends}
use Rattle.ns_moves.proofs.laws.actions_spend_exactly.Goals as goal

pub returns : goal.returns
returns c = action_spends
