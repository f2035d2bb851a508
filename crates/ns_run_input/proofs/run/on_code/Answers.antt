use Rattle.std.proofs.Common.{List, arith, refl, ℕ}
use Rattle.ns_run_input.proofs.run.on_code.Goals as goal
use Rattle.ns_run_input.specs.Input.{code_report, run_of, with_inputs}
use Rattle.ns_run_outcome.specs.laws.Parts.{no_memory_reports, same_reports}

pub returns-in-Ok-clause-reports : goal.returns-in-Ok-clause-reports
returns-in-Ok-clause-reports g c =
    let work = run_of c.args.task in
    same_reports _ _ _ _ _ _ (λ (arguments : List (List ℕ)). work.inputs) (λ arguments. with_inputs (code_report work.telling work.limits c.args.code) arguments work.inputs) c.in-Ok.arguments.items work.arguments
    c.with_inputs.result c.in-Ok.ensures.names c.with_inputs.ensures.reports

pub returns-in-Err-clause-reports : goal.returns-in-Err-clause-reports
returns-in-Err-clause-reports g c = no_memory_reports _ _ _ _ _ _ _ _ (refl, refl, omega arith, omega arith)
