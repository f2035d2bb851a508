use Rattle.ns_session.proofs.Begun.{moves_begun}
use Rattle.ns_session.proofs.laws.begun_runs_stay_begun.Goals as goal

pub returns : goal.returns
returns c = moves_begun
