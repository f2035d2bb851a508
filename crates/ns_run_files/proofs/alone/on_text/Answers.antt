use Rattle.std.proofs.Common.{arith, refl}
use Rattle.ns_run_files.proofs.alone.on_text.Goals as goal
use Rattle.ns_run_outcome.specs.laws.Parts.{no_memory_reports}

pub returns-in-Err : goal.returns-in-Err
returns-in-Err g c = no_memory_reports _ _ _ _ _ _ _ _ (refl, refl, omega arith, omega arith)
