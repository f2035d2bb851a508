use Rattle.ns_session.proofs.Reached.{turn_lowers}
use Rattle.ns_session.proofs.laws.turns_use_steps_up.Goals as goal

pub returns : goal.returns
returns c application =
    let keeps = c.moves_keep_valid.ensures application.code application.grants in
    turn_lowers application (record {
      took = c.moves_charge_as_told.ensures.steps application.code;
      test = c.moves_charge_as_told.ensures.test application.code;
      stay = c.ended_runs_stay.ensures application.code;
      keeps = keeps;
    }) (record {
      keeps = keeps;
      onward = c.moves_go_onward.ensures application.code;
      swaps = c.swaps_keep_valid.ensures application.code application.grants;
    })
