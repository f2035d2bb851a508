use Rattle.std.proofs.Common.{arith}
use Rattle.std.proofs.lemmas.Grind.{common_steps}
use Rattle.ns_verify.proofs.faults.instrs_fault.Goals as goal

pub instrs-preserved : goal.instrs-preserved
instrs-preserved c = grind (arith, common_steps)

pub returns : goal.returns
returns c = grind (arith, common_steps)
