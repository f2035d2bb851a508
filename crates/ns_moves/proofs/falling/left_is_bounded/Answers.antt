use Rattle.ns_moves.proofs.Bounded.{left_bounded}
use Rattle.ns_moves.proofs.falling.left_is_bounded.Goals as goal

pub returns : goal.returns
returns c = left_bounded
