use Rattle.ns_run_code.proofs.Resting.{rests, rest_stays, still_rests}
use Rattle.ns_run_code.proofs.laws.valid_runs_come_to_rest.Goals as goal

pub returns-clause-rests : goal.returns-clause-rests
returns-clause-rests c code grants =
    rests code grants
    (record {
      add = c.moves_add.ensures.moves code;
      stay = c.ended_runs_stay.ensures code;
      keeps = c.moves_keep_valid.ensures code grants;
      lower = c.moves_lower.ensures code grants;
      below = c.left_is_below_a_power.ensures code grants;
    })

pub returns-clause-moves : goal.returns-clause-moves
returns-clause-moves c code grants =
    rest_stays code grants
    (record {
      add = c.moves_add.ensures.moves code;
      stay = c.ended_runs_stay.ensures code;
      keeps = c.moves_keep_valid.ensures code grants;
      lower = c.moves_lower.ensures code grants;
      below = c.left_is_below_a_power.ensures code grants;
    })

pub returns-clause-still : goal.returns-clause-still
returns-clause-still c code grants =
    still_rests code grants
    (record {
      add = c.moves_add.ensures.moves code;
      stay = c.ended_runs_stay.ensures code;
      keeps = c.moves_keep_valid.ensures code grants;
      lower = c.moves_lower.ensures code grants;
      below = c.left_is_below_a_power.ensures code grants;
    })
