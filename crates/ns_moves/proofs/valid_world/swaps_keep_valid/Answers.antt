use Rattle.ns_moves.proofs.Swapping.{swaps_valid}
use Rattle.ns_moves.proofs.valid_world.swaps_keep_valid.Goals as goal

pub returns : goal.returns
returns c = swaps_valid
