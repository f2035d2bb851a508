use Rattle.std.proofs.Common.{refl, arith}
use Rattle.std.proofs.lemmas.Grind.{common_steps}
use Rattle.ns_base.specs.laws.Quoted.{doubled_step}
use Rattle.ns_base.proofs.quoted.put_doubled.Goals as goal

pub bytes-init : goal.bytes-init
bytes-init c = refl

pub bytes-preserved : goal.bytes-preserved
bytes-preserved c = grind (arith, common_steps, doubled_step)

pub returns : goal.returns
returns c = grind (arith, common_steps)
