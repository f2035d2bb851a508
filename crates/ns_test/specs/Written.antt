-- What the command `test` writes of a report, and its status.
use Rattle.std.specs.Prelude.{ℕ, List, [], ◌∷◌, ◌++◌, codes, ◌==◌, ◌&&◌, if◌then◌else◌}
use Rattle.std.specs.Fmt.{decimal}
use Rattle.ns_base.specs.declared.status.Status.{Status}
use Rattle.ns_base.specs.declared.status.Status.TheVariants.{Done, ProgramError}
use Rattle.ns_test.specs.declared.report.TestReport.{TestReport}

-- the line that counts the tests
abbrev pub count_line : TestReport → List ℕ
count_line report =
    codes "tests " ++ decimal report.tests ++ codes " passed " ++ decimal report.passed ++ codes " failed " ++ decimal report.failed
    ++ codes " errors " ++ decimal report.errors ++ 10 ∷ []

-- the lines of the tests, and the one that counts them
abbrev pub written : TestReport → List ℕ
written report = report.lines ++ count_line report

-- done where no test failed or is in error, and else an error of the program
abbrev pub report_status : TestReport → Status
report_status report = if report.failed == 0 && report.errors == 0 then Done else ProgramError
