use Rattle.std.proofs.Common.{arith}
use Rattle.std.proofs.lemmas.Grind.{common_steps}
use Rattle.ns_run_files.proofs.checks.fault_lines.Goals as goal

pub faults-preserved : goal.faults-preserved
faults-preserved c = grind (arith, common_steps)

pub returns : goal.returns
returns c = grind (arith, common_steps)
