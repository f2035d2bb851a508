use Rattle.ns_actors_rounds.proofs.Resting.{TurnsKnown, round_keeps, round_lowers}
use Rattle.ns_actors_rounds.proofs.laws.rounds_leave_less.Goals as goal

pub returns-clause-lower : goal.returns-clause-lower
returns-clause-lower c =
    let known : TurnsKnown = record {
      runs = record {
        made = c.turns_are_made.ensures;
        lower = c.turns_use_steps_up.ensures;
        reach = c.applications_stay_in_reach.ensures.turns;
        stay = c.ended_runs_stay.ensures;
        onward = c.moves_go_onward.ensures;
        keeps = c.moves_keep_valid.ensures;
        took = c.moves_charge_as_told.ensures.steps;
      };
      begin = c.sends_begin_in_reach.ensures;
      short = c.outboxes_are_short.ensures.limit;
      within = c.steps_are_within.ensures;
      keep = c.actors_stay_actors.ensures.turns;
      stay = c.rounds_come_to_rest.ensures.turn;
    } in
    round_lowers known

pub returns-clause-keep : goal.returns-clause-keep
returns-clause-keep c = round_keeps c.actors_stay_actors.ensures.turns
