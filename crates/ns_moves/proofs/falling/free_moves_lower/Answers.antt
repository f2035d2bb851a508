use Rattle.ns_moves.proofs.Lowered.{free_moves_lower}
use Rattle.ns_moves.proofs.falling.free_moves_lower.Goals as goal

pub returns : goal.returns
returns c = free_moves_lower
