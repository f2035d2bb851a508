use Rattle.ns_moves.proofs.LivesOn.{runs_live, sends_live}
use Rattle.ns_moves.proofs.living.begun_runs_keep_live.Goals as goal

pub returns-clause-runs : goal.returns-clause-runs
returns-clause-runs c = λ code grants. runs_live code grants (c.moves_keep_live.ensures.moves code grants)

pub returns-clause-sends : goal.returns-clause-sends
returns-clause-sends c = λ code grants.
    sends_live code grants (c.sends_of_a_host_are_valid.ensures code grants) (c.moves_keep_live.ensures.moves code grants)
