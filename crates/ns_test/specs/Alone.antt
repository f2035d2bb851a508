-- One test on its own: a run of its own, and the line that tells of it.
use Rattle.std.specs.Prelude.{ℕ, List, [], ◌∷◌, ◌++◌, codes}
use Rattle.ns_base.specs.declared.limits.Limits.{Limits}
use Rattle.ns_base.specs.declared.selector.Sel.{Sel}
use Rattle.ns_code.specs.declared.program.CodeProgram.{CodeProgram}
use Rattle.ns_code.specs.Selector.{selector_text}
use Rattle.ns_world.specs.declared.value.Value.{Value}
use Rattle.ns_world.specs.declared.value.Value.TheVariants.{False}
use Rattle.ns_world.specs.declared.ending.Ending.{Ending}
use Rattle.ns_world.specs.declared.ending.Ending.TheVariants.{Done, Error, Limit}
use Rattle.ns_moves.specs.Starts.{begun}
use Rattle.ns_moves.specs.State.{State, ending_of}
use Rattle.ns_machine.specs.Asking.{named}
use Rattle.ns_json.specs.declared.saying.End.{End}
use Rattle.ns_json.specs.declared.saying.Outcome.{Outcome}
use Rattle.ns_json.specs.declared.saying.Outcome.TheVariants as outcome
use Rattle.ns_json.specs.declared.saying.Test.{Test}
use Rattle.ns_run_code.specs.Machine.{end_of, rested, told_at}
use Rattle.ns_run_told.specs.Told.{run_told}
use Rattle.ns_test.specs.declared.report.Verdict.{Verdict}
use Rattle.ns_test.specs.declared.report.Verdict.TheVariants.{Passed, Failed, Erred}
use Rattle.ns_test.specs.Opening.{opened}

-- ---- its run

-- where a run that ended so comes to rest once its value is sent that name; without a value it stays where it is
abbrev pub after_ending : CodeProgram → List ℕ → Ending → State → State
after_ending code name (Done value) state = rested code (begun value (named code name) [] state)
after_ending code name (Error error) state = state
after_ending code name (Limit limit) state = state

-- where a run at rest comes to rest once the value with which it ended is sent that name
abbrev pub sent_on : CodeProgram → List ℕ → State → State
sent_on code name state = after_ending code name (end_of (ending_of state)) state

-- the run of the test of that name: the opening, then `new` to the class that it answers, then the name to the new instance
abbrev pub run_alone : CodeProgram → Limits → List ℕ → State
run_alone code limits name = sent_on code name (sent_on code (codes "new") (opened code limits))

-- ---- its line

-- how a test went that answered this value: only false fails
abbrev pub verdict_on : Value → Verdict
verdict_on False = Failed
verdict_on value = Passed

-- how a test went whose run ended so
abbrev pub verdict_of : Ending → Verdict
verdict_of (Done value) = verdict_on value
verdict_of (Error error) = Erred
verdict_of (Limit limit) = Erred

-- how a test went whose run stands there
abbrev pub verdict_at : State → Verdict
verdict_at state = verdict_of (end_of (ending_of state))

-- the line of a test of that name, with the report line of its run
abbrev pub verdict_line : Verdict → List ℕ → List ℕ → List ℕ
verdict_line Passed name report = codes "pass " ++ name ++ 10 ∷ []
verdict_line Failed name report = codes "fail " ++ name ++ 10 ∷ []
verdict_line Erred name report = codes "error " ++ name ++ 32 ∷ report

-- how a test went in parts, whose run ended so
abbrev pub outcome_of : Verdict → End → Outcome
outcome_of Passed end = outcome.Passed
outcome_of Failed end = outcome.Failed
outcome_of Erred end = outcome.Erred end

-- the test of that name in parts, whose run stands there
abbrev pub part_at : CodeProgram → List ℕ → State → Test
part_at code name state = record { name = name; outcome = outcome_of (verdict_at state) (run_told code state).end }

-- the line of a test of that name whose run stands there
abbrev pub line_at : CodeProgram → List ℕ → State → List ℕ
line_at code name state = verdict_line (verdict_at state) name (told_at code state).line

-- how the test of a selector goes, its line and its parts: nothing here names another test
abbrev pub test_verdict : CodeProgram → Limits → Sel → Verdict
test_verdict code limits sel = verdict_at (run_alone code limits (selector_text code sel.0))

abbrev pub test_line : CodeProgram → Limits → Sel → List ℕ
test_line code limits sel = line_at code (selector_text code sel.0) (run_alone code limits (selector_text code sel.0))

abbrev pub test_part : CodeProgram → Limits → Sel → Test
test_part code limits sel = part_at code (selector_text code sel.0) (run_alone code limits (selector_text code sel.0))
