use Rattle.ns_model.proofs.Enough.{run_ends}
use Rattle.ns_model.proofs.laws.runs_end.Goals as goal

pub returns : goal.returns
returns c = run_ends
