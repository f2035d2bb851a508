use Rattle.ns_session.proofs.Starting.{start_valid}
use Rattle.ns_session.proofs.Alone.{long_rests}
use Rattle.ns_session.proofs.laws.long_turns_rest.Goals as goal

pub returns : goal.returns
returns c application may =
    let code = application.code in
    let grants = application.grants in
    let valid = start_valid application (c.new_machines_are_valid.ensures code grants) (c.opening_sends_are_valid.ensures.first code grants) may in
    long_rests application (record {
      took = c.moves_charge_as_told.ensures.steps code;
      test = c.moves_charge_as_told.ensures.test code;
      stay = c.ended_runs_stay.ensures code;
      keeps = c.moves_keep_valid.ensures code grants;
    }) (c.moves_go_onward.ensures code) valid
