-- What is said of the tests of a program.
use Rattle.std.specs.Prelude.{◌≡◌, ◌+◌, ℕ, Bool, Option, List, [], ◌∷◌, ◌++◌, codes, flat_map, length, map, reverse, Result, Ok, Err, true}
use Rattle.ns_base.specs.declared.limits.Limits.{Limits}
use Rattle.ns_base.specs.declared.selector.Sel.{Sel}
use Rattle.ns_code.specs.declared.class.ClassCode.{ClassCode}
use Rattle.ns_code.specs.declared.program.CodeProgram.{CodeProgram}
use Rattle.ns_code.specs.Fits.{Fits}
use Rattle.ns_code.specs.Selector.{selector_text}
use Rattle.ns_json.specs.declared.saying.Outcome.{Outcome}
use Rattle.ns_json.specs.declared.saying.Outcome.TheVariants as outcome
use Rattle.ns_machine.specs.Asking.{named}
use Rattle.ns_moves.specs.State.{State}
use Rattle.ns_run_told.specs.Laws.{line_of}
use Rattle.ns_test.specs.declared.report.TestReport.{TestReport}
use Rattle.ns_test.specs.declared.report.TestFault.{TestFault}
use Rattle.ns_test.specs.declared.report.TestFault.TheVariants as fault
use Rattle.ns_test.specs.Alone.{test_line, test_part}
use Rattle.ns_test.specs.Opening.{names_test, tests_of}
use Rattle.ns_test.specs.Tests.{Tested, has_no_code, has_not_opened, not_tests, no_test, has_tested}
use Rattle.ns_test.specs.Tests.{asked_for, of_asked, of_opening, reported}

-- A selector whose name is a test's.
abbrev pub IsTest : CodeProgram → Sel → Type 0
IsTest code sel = names_test (selector_text code sel.0) ≡ true

-- The answer is what came of the tests; want of memory is answered whatever that is.
abbrev pub Tells : Tested → Result TestReport TestFault → Type 0
Tells tested (Ok report) = tested ≡ has_tested report
Tells tested (Err (fault.TooLarge kind)) = tested ≡ has_no_code kind
Tells tested (Err (fault.Opening line status part)) = tested ≡ has_not_opened line status part
Tells tested (Err fault.NotTests) = tested ≡ not_tests
Tells tested (Err fault.NoTest) = tested ≡ no_test
Tells tested (Err fault.Memory) = Unit {0}

-- What comes of an opening that came to rest there comes of the tests of this class.
abbrev pub AnswersClass : CodeProgram → State → ClassCode → Type 0
AnswersClass code state class = (limits : Limits) (reversed : Bool) (only : Option (List ℕ))
    → of_opening code limits reversed only state ≡ of_asked code limits (asked_for code reversed only (tests_of code class))

-- What comes of an opening that came to rest there is this fault.
abbrev pub AnswersFault : CodeProgram → State → TestFault → Type 0
AnswersFault code state fault = (limits : Limits) (reversed : Bool) (only : Option (List ℕ))
    → Tells (of_opening code limits reversed only state) (Err fault)

-- ---- laws

-- A test is sent by its own selector, in code that fits its fields: no other selector has that name.
abbrev pub SentByItsSelector : CodeProgram → Type 0
SentByItsSelector code = (sel : Sel) → Fits code → IsTest code sel → named code (selector_text code sel.0) ≡ sel

-- The lines of tests are the line of each on its own, in their order.
abbrev pub LinesAreEachOnes : CodeProgram → Limits → Type 0
LinesAreEachOnes code limits = (tests : List Sel) → (reported code limits tests).lines ≡ flat_map (test_line code limits) tests

-- the line of a test of that name that went so
abbrev pub part_line : List ℕ → Outcome → List ℕ
part_line name outcome.Passed = codes "pass " ++ name ++ 10 ∷ []
part_line name outcome.Failed = codes "fail " ++ name ++ 10 ∷ []
part_line name (outcome.Erred end) = codes "error " ++ name ++ 32 ∷ line_of end

-- The line of each test is that of its parts, so both tell the same.
abbrev pub LinesTellParts : CodeProgram → Limits → Type 0
LinesTellParts code limits =
    (sel : Sel) → test_line code limits sel ≡ part_line (test_part code limits sel).name (test_part code limits sel).outcome

-- The parts of tests are those of each on its own, in their order.
abbrev pub PartsAreEachOnes : CodeProgram → Limits → Type 0
PartsAreEachOnes code limits = (tests : List Sel) → (reported code limits tests).parts ≡ map (test_part code limits) tests

-- Each test is counted as one of the three kinds.
pub record IsCountedOnce (report : TestReport) (tests : List Sel) : Type 0 where
  pub all : report.tests ≡ length tests
  pub kinds : report.passed + report.failed + report.errors ≡ report.tests

abbrev pub CountsAddUp : CodeProgram → Limits → Type 0
CountsAddUp code limits = (tests : List Sel) → IsCountedOnce (reported code limits tests) tests

-- The reports of the same tests in two orders have the same counts.
pub record CountsAlike (one other : TestReport) : Type 0 where
  pub passed : one.passed ≡ other.passed
  pub failed : one.failed ≡ other.failed
  pub errors : one.errors ≡ other.errors

-- In the reverse order as many pass, fail and are in error.
abbrev pub OrderCountsNothing : CodeProgram → Limits → Type 0
OrderCountsNothing code limits = (tests : List Sel) → CountsAlike (reported code limits (reverse tests)) (reported code limits tests)
