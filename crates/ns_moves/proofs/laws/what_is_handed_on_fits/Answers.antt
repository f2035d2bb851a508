use Rattle.ns_moves.proofs.Handing.{action_hands_on}
use Rattle.ns_moves.proofs.laws.what_is_handed_on_fits.Goals as goal

pub returns : goal.returns
returns c = action_hands_on
