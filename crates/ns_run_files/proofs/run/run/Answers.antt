use Rattle.std.proofs.Common.{Err, IfOk, ap, arith, refl, subst, ◌≡◌}
use Rattle.ns_resolved.specs.Classes.{meant}
use Rattle.ns_run_files.proofs.RunLaws.{code_is_meant, large_is_meant}
use Rattle.ns_run_files.proofs.run.run.Goals as goal
use Rattle.ns_run_files.specs.Programs.{of_meant}
use Rattle.ns_run_input.specs.Input.{code_run, run_of}
use Rattle.ns_run_input.specs.laws.Behind.{plain_missing, plain_reports}
use Rattle.ns_run_input.specs.laws.Inputs.{same_meaning}
use Rattle.ns_run_outcome.specs.Report.{refused_size, size_name, too_large}
use Rattle.ns_run_outcome.specs.laws.Parts.{no_memory_reports}
use Rattle.ns_run_outcome.specs.laws.Plain.{size_ends, size_plain}

pub returns-in-Ok-clause-reports : goal.returns-in-Ok-clause-reports
returns-in-Ok-clause-reports g c =
    let run = run_of c.args.task in
    let program = meant c.args.checked in
    same_meaning _ _ _ _ _ _ run.inputs (code_run run c.in-Ok.code) (of_meant run program) c.on_code.result
    (λ texts. code_is_meant run program c.in-Ok.code texts c.in-Ok.ensures.code c.in-Ok.ensures.runs c.in-Ok.ensures.fits c.requires) c.on_code.ensures.reports

pub returns-in-Err-TooLarge-clause-reports : goal.returns-in-Err-TooLarge-clause-reports
returns-in-Err-TooLarge-clause-reports g c =
    let run = run_of c.args.task in
    let program = meant c.args.checked in
    let kind = c.in-Err-TooLarge.kind in
    let made = subst (λ name. IfOk c.refused_size.result (λ r. r ≡ refused_size name)) c.size_name.ensures c.refused_size.ensures in
    plain_reports _ _ _ _ c.args.shelf.now run.inputs (of_meant run program) (too_large kind) c.refused_size.result c.or_stop.result c.or_stop.ensures made (size_plain (size_name kind) (size_ends kind))
    (λ texts. large_is_meant run program kind texts (c.in-Err-TooLarge.ensures.large kind (ap Err c.in-Err-TooLarge.field-0-is)))

pub returns-in-Err-TooLarge-clause-missing : goal.returns-in-Err-TooLarge-clause-missing
returns-in-Err-TooLarge-clause-missing g c =
    let kind = c.in-Err-TooLarge.kind in
    let made = subst (λ name. IfOk c.refused_size.result (λ r. r ≡ refused_size name)) c.size_name.ensures c.refused_size.ensures in
    plain_missing _ (too_large kind) c.refused_size.result c.or_stop.result c.or_stop.ensures made (size_plain (size_name kind) (size_ends kind))

pub returns-in-Err-Memory-clause-reports : goal.returns-in-Err-Memory-clause-reports
returns-in-Err-Memory-clause-reports g c = no_memory_reports _ _ _ _ _ _ _ _ (refl, refl, omega arith, omega arith)
