use Rattle.ns_session.proofs.Starting.{start_valid}
use Rattle.ns_session.proofs.Reached.{start_reached, turn_reaches}
use Rattle.ns_session.proofs.laws.applications_stay_in_reach.Goals as goal

pub returns-clause-start : goal.returns-clause-start
returns-clause-start c application may =
    start_reached application
    (start_valid application (c.new_machines_are_valid.ensures application.code application.grants)
    (c.opening_sends_are_valid.ensures.first application.code application.grants) may)

pub returns-clause-turns : goal.returns-clause-turns
returns-clause-turns c application =
    turn_reaches application (record {
      keeps = c.moves_keep_valid.ensures application.code application.grants;
      onward = c.moves_go_onward.ensures application.code;
      swaps = c.swaps_keep_valid.ensures application.code application.grants;
    })
