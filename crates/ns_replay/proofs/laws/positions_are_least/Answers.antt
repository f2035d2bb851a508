use Rattle.ns_replay.proofs.Positions.{positions_least}
use Rattle.ns_replay.proofs.laws.positions_are_least.Goals as goal

pub returns : goal.returns
returns c code grants =
    positions_least code grants
    (record {
      took = c.moves_charge_as_told.ensures.steps code;
      test = c.moves_charge_as_told.ensures.test code;
      stay = c.ended_runs_stay.ensures code;
      keeps = c.moves_keep_valid.ensures code grants;
      add = c.turns_add.ensures.add code;
      one = c.turns_add.ensures.one code;
    })
