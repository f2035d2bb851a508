use Rattle.ns_run_snap.proofs.Going.{turn_goes_on}
use Rattle.ns_run_snap.proofs.laws.turns_go_on.Goals as goal

pub returns : goal.returns
returns c code grants = turn_goes_on code grants (c.moves_keep_valid.ensures code grants) (c.valid_runs_come_to_rest.ensures.moves code grants)
