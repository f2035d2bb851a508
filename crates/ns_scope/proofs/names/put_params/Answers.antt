use Rattle.std.proofs.Common.{refl, arith}
use Rattle.std.proofs.lemmas.Grind.{common_steps}
use Rattle.ns_scope.proofs.names.put_params.Goals as goal

pub loop-param-init : goal.loop-param-init
loop-param-init c = refl

pub loop-param-preserved : goal.loop-param-preserved
loop-param-preserved c = grind (arith, common_steps)

pub returns : goal.returns
returns c = grind (arith, common_steps)
