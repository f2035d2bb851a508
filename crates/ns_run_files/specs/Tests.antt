-- What the tests of a program write.
use Rattle.std.specs.Prelude.{ℕ, List, [], None, Some, codes}
use Rattle.ns_json.specs.declared.saying.Saying.TheVariants.{Ran, Tested}
use Rattle.ns_json.specs.declared.saying.Tests as saying
use Rattle.ns_run_outcome.specs.Report.{refused_file, too_large}
use Rattle.ns_run_outcome.specs.declared.report.Report.{Report}
use Rattle.ns_test.specs.Tests as tests
use Rattle.ns_test.specs.Tests.{has_no_code, has_not_opened, has_tested, no_test, not_tests}
use Rattle.ns_test.specs.Written.{report_status, written}
use Rattle.ns_test.specs.declared.report.TestReport.{TestReport}

-- a report of tests in parts
abbrev pub tests_told : TestReport → saying.Tests
tests_told report = record { tests = report.parts; passed = report.passed; failed = report.failed; errors = report.errors }

-- The report of tests writes a line for each, and the counts; an opening that ended otherwise writes its report line alone, and is
-- told as its run.
abbrev pub tests_report : List ℕ → tests.Tested → Report
tests_report file (has_no_code kind) = too_large kind
tests_report file (has_not_opened line status part) =
    record { out = []; err = line; status = status; stored = None; said = Some (Ran part) }
tests_report file not_tests = refused_file file (codes "NotTests")
tests_report file no_test = refused_file file (codes "NoTest")
tests_report file (has_tested report) =
    record { out = written report; err = []; status = report_status report; stored = None; said = Some (Tested (tests_told report)) }
