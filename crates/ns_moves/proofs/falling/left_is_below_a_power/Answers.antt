use Rattle.ns_moves.proofs.Powers.{below_power}
use Rattle.ns_moves.proofs.falling.left_is_below_a_power.Goals as goal

pub returns : goal.returns
returns c code grants state valid = below_power code state (c.left_is_bounded.ensures code grants state valid)
