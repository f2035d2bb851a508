use Rattle.std.proofs.Common.{IfOk, subst, ◌≡◌, ◌∙◌}
use Rattle.ns_run_input.proofs.InputLaws.{kept_so, report_made}
use Rattle.ns_run_input.proofs.run.report_in_parts.Goals as goal
use Rattle.ns_run_outcome.specs.declared.report.Report.{Report}
use Rattle.ns_run_told.specs.Told.{code_told}

pub traced-requires-clause-told : goal.traced-requires-clause-told
traced-requires-clause-told c =
    kept_so c.args.telling.trace c.args.code c.in_ok-again.again
    (λ code. c.in_ok-ran.field-0.parts ≡ code_told code c.args.limits c.args.arguments.now) c.in_ok-again.ensures c.in_ok-ran.ensures.parts

pub returns : goal.returns
returns c =
    subst (λ (report : Report). IfOk c.run_report.result (λ r. r ≡ report))
    (report_made c.args.telling c.args.limits c.args.code c.args.arguments.now c.in_ok-ran.field-0.ran c.in_ok-ran.field-0.parts c.in_ok-again.again
    c.in_ok-trace.trace c.as_slice.result.now c.asked.result c.in_ok-ran.ensures.ran c.in_ok-ran.ensures.parts c.in_ok-again.ensures
    c.in_ok-trace.ensures (c.as_slice.ensures.value ∙ c.in_ok-lines.ensures) c.asked.ensures)
    c.run_report.ensures
