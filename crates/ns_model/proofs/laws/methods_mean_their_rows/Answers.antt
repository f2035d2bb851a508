use Rattle.ns_model.proofs.RowsMean.{methods_are_rows}
use Rattle.ns_model.proofs.Enough.{method_enough}
use Rattle.ns_model.proofs.laws.methods_mean_their_rows.Goals as goal

pub returns-clause-rows : goal.returns-clause-rows
returns-clause-rows c = methods_are_rows

pub returns-clause-enough : goal.returns-clause-enough
returns-clause-enough c = method_enough
