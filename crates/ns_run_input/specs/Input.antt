-- The run of code as it is asked for, over the texts of its inputs.
use Rattle.std.specs.Prelude.{ℕ, Bool, List, [], ◌∷◌, ◌++◌, Option, Some, None, codes, drop, length, map, nat_lt, option_map, string_bytes, take, if◌then◌else◌}
use Rattle.ns_base.specs.declared.limits.Limits.{Limits}
use Rattle.ns_code.specs.declared.program.CodeProgram.{CodeProgram}
use Rattle.ns_json.specs.declared.saying.Run.{Run}
use Rattle.ns_json.specs.declared.saying.Trace.{Trace}
use Rattle.ns_run_code.specs.Machine.{machine_run}
use Rattle.ns_run_code.specs.declared.run.Ran.{Ran}
use Rattle.ns_run_input.specs.declared.task.Input as inputs
use Rattle.ns_run_input.specs.declared.task.Input.TheVariants as input
use Rattle.ns_run_input.specs.declared.task.RunTask as tasks
use Rattle.ns_run_outcome.specs.Report.{never_told, refused_file}
use Rattle.ns_run_outcome.specs.Run.{run_report}
use Rattle.ns_run_outcome.specs.declared.report.Report.{Report}
use Rattle.ns_run_outcome.specs.declared.run.Telling.{Telling}
use Rattle.ns_run_told.specs.Told.{code_told}
use Rattle.ns_run_trace.specs.Trace.{code_trace, trace_lines}
use Rattle.ns_run_words.specs.Options.{texts_among}

-- A run as it is asked for: how it is told, its limits, its arguments, and the files whose texts are arguments too.
pub record RunWork : Type 0 where
  pub telling : Telling
  pub limits : Limits
  pub arguments : List (List ℕ)
  pub inputs : List (List ℕ)

-- the work that the code's stands for
abbrev pub run_of : tasks.RunTask → RunWork
run_of task =
    record {
      telling = task.telling;
      limits = task.limits;
      arguments = map string_bytes task.arguments.now;
      inputs = texts_among (map string_bytes task.options.now);
    }

-- What is read of an input: its text, or the report that refuses it.
pub data InputRead : Type 0 where
  reads : (text : List ℕ) → InputRead
  refuses : (report : Report) → InputRead

-- what the code's stands for
abbrev pub seen : inputs.Input → InputRead
seen (input.Read text) = reads text
seen (input.Refused report) = refuses report

-- the text of a file of that name, if it isn't too long
abbrev pub measured : List ℕ → List ℕ → InputRead
measured name text = if nat_lt 1048576 (length text) then refuses (refused_file name (codes "TooLong")) else reads text

-- what is read of the file of that name, of which this is the text, if it is there
abbrev pub input_of : List ℕ → Option (List ℕ) → InputRead
input_of name None = refuses (refused_file name (codes "Missing"))
input_of name (Some text) = measured name text

-- what is done with the text that was read; or its refusal
abbrev pub read_then : (List ℕ → Report) → InputRead → Report
read_then next (reads text) = next text
read_then next (refuses report) = report

-- what is done with arguments, and behind them with the texts of the files of these names, of which each is one more; or the refusal of the
-- first of them (each has a text or none)
abbrev pub with_inputs : (List (List ℕ) → Report) → (arguments names : List (List ℕ)) → List (Option (List ℕ)) → Report
with_inputs run arguments [] texts = run arguments
with_inputs run arguments (name ∷ names) [] = never_told
with_inputs run arguments (name ∷ names) (text ∷ texts) =
    read_then (λ read. with_inputs run (arguments ++ read ∷ []) names texts) (input_of name text)

-- what is told in parts, where it is asked for
abbrev pub asked : Bool → Run → Option Run
asked json parts = if json then Some parts else None

-- the run of some code in parts, where it is asked for
abbrev pub parts_of : Telling → CodeProgram → Limits → List (List ℕ) → Option Run
parts_of telling code limits arguments = asked telling.json (code_told code limits arguments)

-- the code of a run that is to be traced
abbrev pub kept_for : Bool → CodeProgram → Option CodeProgram
kept_for traced code = if traced then Some code else None

-- the sends that were open before it ended, where they are asked for
abbrev pub trace_of : Telling → CodeProgram → Limits → List (List ℕ) → Option Trace
trace_of telling code limits arguments = option_map (λ code. code_trace code limits arguments) (kept_for telling.trace code)

-- the lines of a trace, where it is told
abbrev pub lines_of : Option Trace → List ℕ
lines_of None = []
lines_of (Some trace) = trace_lines trace

-- the report of a run with this trace
abbrev pub traced_report : Telling → Limits → Ran → Option Trace → Option Run → Report
traced_report telling limits ran trace parts = run_report telling limits ran (lines_of trace) trace parts

-- the run of code within these limits with these arguments
abbrev pub code_report : Telling → Limits → CodeProgram → List (List ℕ) → Report
code_report telling limits code arguments =
    traced_report telling limits (machine_run code limits arguments) (trace_of telling code limits arguments)
    (parts_of telling code limits arguments)

-- the run of code as it is asked for, over the texts of its inputs
abbrev pub code_run : RunWork → CodeProgram → List (Option (List ℕ)) → Report
code_run work code texts = with_inputs (code_report work.telling work.limits code) work.arguments work.inputs texts

-- what is meant by the texts of so many files, and by those of inputs that stand behind them
abbrev pub in_parts : ℕ → (List (Option (List ℕ)) → List (Option (List ℕ)) → Report) → List (Option (List ℕ)) → Report
in_parts count meant texts = meant (take count texts) (drop count texts)
