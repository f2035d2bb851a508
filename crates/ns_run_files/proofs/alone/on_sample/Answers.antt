use Rattle.std.proofs.Common.{List, [], arith, codes, false, refl, ℕ}
use Rattle.ns_lib.specs.Sample.{sample}
use Rattle.ns_run_files.proofs.alone.on_sample.Goals as goal
use Rattle.ns_run_files.specs.Programs.{run_of_text, sample_run}
use Rattle.ns_run_outcome.specs.laws.Parts.{no_memory_reports, same_reports}

pub returns-in-Ok : goal.returns-in-Ok
returns-in-Ok g c =
    same_reports _ _ _ _ _ _ (λ (source : List ℕ). []) (λ source. run_of_text (sample_run c.args.n) (codes "sample") false source) c.in-Ok.source.items (sample c.args.n) c.on_text.result c.in-Ok.ensures c.on_text.ensures

pub returns-in-Err : goal.returns-in-Err
returns-in-Err g c = no_memory_reports _ _ _ _ _ _ _ _ (refl, refl, omega arith, omega arith)
