use Rattle.ns_session.proofs.RobinRounding.{robin_is}
use Rattle.ns_session.proofs.robin_laws.round_robins_are_a_function.Goals as goal

pub returns : goal.returns
returns c quantum old new some reached made =
    robin_is (record {
      turns = c.turns_beside_a_board_are_a_function.ensures;
      reach = c.applications_stay_in_reach.ensures.turns;
      lower = c.turns_use_steps_up.ensures;
    }) quantum some old new reached made
