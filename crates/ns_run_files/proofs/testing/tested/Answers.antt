use Rattle.std.proofs.Common.{◌≡◌, ◌∙◌, ℕ, List, Err, IfOk, ap, subst, sym}
use Rattle.ns_base.specs.declared.status.Status.{Status}
use Rattle.ns_json.specs.declared.saying.Run.{Run}
use Rattle.ns_run_outcome.specs.declared.report.Report.{Report}
use Rattle.ns_test.specs.declared.report.TestFault.{TestFault}
use Rattle.ns_test.specs.declared.report.TestFault.TheVariants.{Opening}
use Rattle.ns_test.specs.Stated.{Tells}
use Rattle.ns_test.specs.Tests.{Tested, has_not_opened}
use Rattle.ns_run_files.specs.Tests.{tests_report}
use Rattle.ns_run_files.proofs.testing.tested.Goals as goal

pub returns-in-Ok : goal.returns-in-Ok
returns-in-Ok c =
    subst (λ (tested : Tested). IfOk c.counted.result (λ r. r ≡ tests_report c.args.file.now tested)) (sym c.in-Ok.ensures)
    (c.counted.ensures c.args.file.now)

-- the report of an opening that ended without a value
opening_told : (file : List ℕ) (tested : Tested) (fault : TestFault) (line : List ℕ) (status : Status) (part : Run)
    (report : Report) → fault ≡ Opening line status part → Tells tested (Err fault)
    → report ≡ tests_report file (has_not_opened line status part) → report ≡ tests_report file tested
opening_told file tested fault line status part report is told reported =
    let ended : tested ≡ has_not_opened line status part = subst (λ (f : TestFault). Tells tested (Err f)) is told in
    reported ∙ ap (tests_report file) (sym ended)

pub returns-in-Err-Opening : goal.returns-in-Err-Opening
returns-in-Err-Opening c =
    opening_told c.args.file.now _ c.in-Err-Opening.field-0 c.in-Err-Opening.line c.in-Err-Opening.status c.in-Err-Opening.part c.opened_alone.result
    c.in-Err-Opening.field-0-is c.in-Err-Opening.ensures (c.opened_alone.ensures c.args.file.now)
