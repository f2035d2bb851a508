-- The tests of a program: a line for each of those that are asked for, and the counts of the lines.
use Rattle.std.specs.Prelude.{ℕ, List, [], ◌∷◌, flat_map, map, filter, reverse, length, count_by, Option, None, Some, Bool, true, false}
use Rattle.std.specs.Prelude.{if◌then◌else◌}
use Rattle.std.specs.Str.{bytes_eq}
use Rattle.ns_base.specs.declared.limits.Limits.{Limits}
use Rattle.ns_base.specs.declared.selector.Sel.{Sel}
use Rattle.ns_base.specs.declared.status.Status.{Status}
use Rattle.ns_code.specs.declared.program.CodeProgram.{CodeProgram}
use Rattle.ns_code.specs.declared.class.ClassCode.{ClassCode}
use Rattle.ns_code.specs.Selector.{selector_text}
use Rattle.ns_gen_code.specs.declared.size.SizeKind.{SizeKind}
use Rattle.ns_world.specs.declared.ending.Ending.{Ending}
use Rattle.ns_world.specs.declared.ending.Ending.TheVariants.{Done, Error, Limit}
use Rattle.ns_moves.specs.State.{State, ending_of, world_of}
use Rattle.ns_json.specs.declared.saying.Run.{Run}
use Rattle.ns_json.specs.declared.saying.Test.{Test}
use Rattle.ns_run_code.specs.Machine.{end_of, told_at}
use Rattle.ns_run_told.specs.Told.{run_told}
use Rattle.ns_test.specs.declared.report.TestReport.{TestReport}
use Rattle.ns_test.specs.declared.report.Verdict.{Verdict}
use Rattle.ns_test.specs.declared.report.Verdict.TheVariants.{Passed, Failed, Erred}
use Rattle.ns_test.specs.Opening.{opened, tests_class, tests_of}
use Rattle.ns_test.specs.Alone.{test_line, test_part, test_verdict}

-- ---- which tests

-- the tests in the order of the text, or in the reverse one
abbrev pub ordered : Bool → List Sel → List Sel
ordered reversed tests = if reversed then reverse tests else tests

-- those of that name
abbrev pub of_name : CodeProgram → List ℕ → List Sel → List Sel
of_name code name tests = filter (λ (sel : Sel). bytes_eq (selector_text code sel.0) name) tests

-- these tests, unless there are none
abbrev pub unless_none : List Sel → Option (List Sel)
unless_none [] = None
unless_none (sel ∷ sels) = Some (sel ∷ sels)

-- of a class's tests those that are asked for: all, or the one of a name, if there is one
abbrev pub asked_for : CodeProgram → Bool → Option (List ℕ) → List Sel → Option (List Sel)
asked_for code reversed None tests = Some (ordered reversed tests)
asked_for code reversed (Some name) tests = unless_none (of_name code name tests)

-- ---- what is told of them

abbrev pub is_passed : Verdict → Bool
is_passed Passed = true
is_passed Failed = false
is_passed Erred = false

abbrev pub is_failed : Verdict → Bool
is_failed Passed = false
is_failed Failed = true
is_failed Erred = false

abbrev pub is_erred : Verdict → Bool
is_erred Passed = false
is_erred Failed = false
is_erred Erred = true

-- the report of tests with these lines and parts, which went so
abbrev pub counted : List ℕ → List Test → List Verdict → TestReport
counted lines parts verdicts =
    record {
      lines = lines;
      parts = parts;
      tests = length verdicts;
      passed = count_by is_passed verdicts;
      failed = count_by is_failed verdicts;
      errors = count_by is_erred verdicts;
    }

-- the report of these tests, each run on its own
abbrev pub reported : CodeProgram → Limits → List Sel → TestReport
reported code limits tests =
    counted (flat_map (test_line code limits) tests) (map (test_part code limits) tests) (map (test_verdict code limits) tests)

-- ---- all of it

-- a size of the program's code is too large; the opening ended in an error or a limit; it answered no class of tests; no test has
-- the name that is asked for; or there is a report
pub data Tested : Type 0 where
  has_no_code : (kind : SizeKind) → Tested
  has_not_opened : (line : List ℕ) (status : Status) (part : Run) → Tested
  not_tests : Tested
  no_test : Tested
  has_tested : (report : TestReport) → Tested

-- what comes of the tests that are asked for
abbrev pub of_asked : CodeProgram → Limits → Option (List Sel) → Tested
of_asked code limits None = no_test
of_asked code limits (Some tests) = has_tested (reported code limits tests)

-- what comes of a class of tests
abbrev pub of_class : CodeProgram → Limits → Bool → Option (List ℕ) → Option ClassCode → Tested
of_class code limits reversed only None = not_tests
of_class code limits reversed only (Some class) = of_asked code limits (asked_for code reversed only (tests_of code class))

-- what is told of an opening that came to rest there without a value, and of its run in parts
abbrev pub stopped_at : CodeProgram → State → Tested
stopped_at code state = has_not_opened (told_at code state).line (told_at code state).status (run_told code state)

-- what comes of an opening that ended so
abbrev pub of_ending : CodeProgram → Limits → Bool → Option (List ℕ) → State → Ending → Tested
of_ending code limits reversed only state (Done value) = of_class code limits reversed only (tests_class code (world_of state).cells value)
of_ending code limits reversed only state (Error error) = stopped_at code state
of_ending code limits reversed only state (Limit limit) = stopped_at code state

-- what comes of an opening that came to rest there
abbrev pub of_opening : CodeProgram → Limits → Bool → Option (List ℕ) → State → Tested
of_opening code limits reversed only state = of_ending code limits reversed only state (end_of (ending_of state))

-- the tests of some code within these limits: all, in the reverse order where that is asked for, or the one of a name
abbrev pub tests_run : CodeProgram → Limits → Bool → Option (List ℕ) → Tested
tests_run code limits reversed only = of_opening code limits reversed only (opened code limits)
