use Rattle.ns_moves.proofs.Ending.{lowered}
use Rattle.ns_moves.proofs.falling.moves_lower.Goals as goal

pub returns : goal.returns
returns c code grants =
    lowered code grants
    (record {
      told = c.moves_charge_as_told.ensures.steps code;
      onward = c.moves_go_onward.ensures code;
      keeps = c.moves_keep_valid.ensures code grants;
      lower = c.free_moves_lower.ensures code grants;
      bounded = c.left_is_bounded.ensures code grants;
    })
