use Rattle.std.proofs.Common.{List, arith, codes, refl, ℕ}
use Rattle.ns_run_files.proofs.alone.on_eval.Goals as goal
use Rattle.ns_run_files.specs.Programs.{eval_source, run_of_text}
use Rattle.ns_run_input.specs.Input.{run_of}
use Rattle.ns_run_outcome.specs.laws.Parts.{no_memory_reports, same_reports}

pub returns-in-Ok : goal.returns-in-Ok
returns-in-Ok g c =
    let run = run_of c.args.task in
    same_reports _ _ _ _ _ _ (λ (source : List ℕ). run.inputs) (λ source. run_of_text run (codes "eval") c.args.lib source) c.in-Ok.source.items (eval_source c.args.text.now) c.on_text.result c.in-Ok.ensures c.on_text.ensures

pub returns-in-Err : goal.returns-in-Err
returns-in-Err g c = no_memory_reports _ _ _ _ _ _ _ _ (refl, refl, omega arith, omega arith)
