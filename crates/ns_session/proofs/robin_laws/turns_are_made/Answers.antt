use Rattle.ns_session.proofs.Turning.{turn_is_made}
use Rattle.ns_session.proofs.robin_laws.turns_are_made.Goals as goal

pub returns : goal.returns
returns c code grants =
    turn_is_made code grants (record {
      one = c.turns_add.ensures.one code;
      keeps = c.moves_keep_valid.ensures code grants;
      lower = c.moves_lower.ensures code grants;
      below = c.left_is_below_a_power.ensures code grants;
    })
