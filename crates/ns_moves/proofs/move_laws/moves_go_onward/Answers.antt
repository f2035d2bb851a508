use Rattle.ns_moves.proofs.MovesOnward.{moves_onward}
use Rattle.ns_moves.proofs.move_laws.moves_go_onward.Goals as goal

pub returns : goal.returns
returns c = moves_onward
