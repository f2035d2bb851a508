use Rattle.ns_run_trace.proofs.Ending.{ends_after_it}
use Rattle.ns_run_trace.proofs.laws.runs_end_after_it.Goals as goal

pub returns : goal.returns
returns c code grants =
    ends_after_it code grants
    (record {
      add = c.moves_add.ensures.moves code;
      stay = c.ended_runs_stay.ensures code;
      keeps = c.moves_keep_valid.ensures code grants;
      rests = c.valid_runs_come_to_rest.ensures.rests code grants;
      keep_rest = c.valid_runs_come_to_rest.ensures.moves code grants;
      still_rests = c.valid_runs_come_to_rest.ensures.still code grants;
      below = c.left_is_below_a_power.ensures code grants;
    })
