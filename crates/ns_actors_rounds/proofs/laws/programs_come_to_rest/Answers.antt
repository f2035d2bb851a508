use Rattle.ns_actors_rounds.proofs.Enough.{rounds_enough}
use Rattle.ns_actors_rounds.proofs.Programs.{programs_rest}
use Rattle.ns_actors_rounds.proofs.laws.programs_come_to_rest.Goals as goal

pub returns-clause-rounds : goal.returns-clause-rounds
returns-clause-rounds c = rounds_enough

pub returns-clause-rest : goal.returns-clause-rest
returns-clause-rest c code limits =
    programs_rest (record {
      nobody_is = c.actors_stay_actors.ensures.nobody;
      adding = c.actors_stay_actors.ensures.added;
      posting = c.actors_stay_actors.ensures.posted;
    }) c.actors_come_to_rest.ensures code limits (rounds_enough code limits)
