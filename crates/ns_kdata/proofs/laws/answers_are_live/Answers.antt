use Rattle.ns_kdata.specs.laws.Living.{rows_live}
use Rattle.ns_kdata.proofs.laws.answers_are_live.Goals as goal

pub returns : goal.returns
returns c = rows_live
