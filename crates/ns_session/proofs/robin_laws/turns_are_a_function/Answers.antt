use Rattle.ns_session.proofs.Turning.{turns_are_turned}
use Rattle.ns_session.proofs.robin_laws.turns_are_a_function.Goals as goal

pub returns : goal.returns
returns c code grants =
    turns_are_turned code grants (record {
      one = c.turns_add.ensures.one code;
      keeps = c.moves_keep_valid.ensures code grants;
      lower = c.moves_lower.ensures code grants;
      below = c.left_is_below_a_power.ensures code grants;
    })
