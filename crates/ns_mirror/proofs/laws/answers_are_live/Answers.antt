use Rattle.ns_mirror.specs.laws.Living.{rows_live}
use Rattle.ns_mirror.proofs.laws.answers_are_live.Goals as goal

pub returns : goal.returns
returns c = rows_live
