-- What the report of a run tells.
use Rattle.std.specs.Prelude.{ℕ, List, [], ◌∷◌, Bool, Option, Some, None, option_map, ◌++◌, codes, if◌then◌else◌}
use Rattle.std.specs.Fmt.{decimal}
use Rattle.std.specs.Str.{bytes_eq}
use Rattle.ns_base.specs.declared.limits.Limits.{Limits}
use Rattle.ns_base.specs.declared.status.Status.{Status}
use Rattle.ns_base.specs.declared.status.Status.TheVariants.{Done, ProgramError, Refused, Limit, ReadFault, WriteFault, Memory}
use Rattle.ns_json.specs.declared.saying.Run.{Run}
use Rattle.ns_json.specs.declared.saying.Saying.{Saying}
use Rattle.ns_json.specs.declared.saying.Saying.TheVariants as said
use Rattle.ns_json.specs.declared.saying.Trace.{Trace}
use Rattle.ns_run_code.specs.declared.run.Ran.{Ran}
use Rattle.ns_run_outcome.specs.declared.report.Report.{Report}
use Rattle.ns_run_outcome.specs.declared.run.Telling.{Telling}
use Rattle.ns_world.specs.declared.ending.Counters.{Counters}

-- the line that tells of a run how many classes its program has and how many steps it used
abbrev pub summary : (classes steps : ℕ) → List ℕ
summary classes steps = codes "classes " ++ decimal classes ++ codes " steps " ++ decimal steps ++ 10 ∷ []

-- what a run printed, and behind it the line on classes and steps where these are counted
abbrev pub with_summary : Option ℕ → ℕ → List ℕ → List ℕ
with_summary None steps output = output
with_summary (Some classes) steps output = output ++ summary classes steps

-- how much was used of what a limit allows
abbrev pub used_of : List ℕ → (used limit : ℕ) → List ℕ
used_of name used limit = codes " " ++ name ++ codes " " ++ decimal used ++ codes " of " ++ decimal limit

-- the line that tells what a run used of its limits
abbrev pub stats : Counters → Limits → List ℕ
stats used limits =
    codes "used" ++ used_of (codes "steps") used.steps limits.steps ++ used_of (codes "cells") used.cells limits.cells
    ++ used_of (codes "depth") used.depth limits.depth ++ used_of (codes "out") used.out limits.out ++ 10 ∷ []

-- the report line of a run with what is told behind it, and then the line on what was used where that is asked for
abbrev pub with_stats : Bool → Counters → Limits → List ℕ → List ℕ
with_stats asked used limits line = if asked then line ++ stats used limits else line

-- the status of a run whose answer isn't true
abbrev pub untrue : Status → Status
untrue Done = ProgramError
untrue ProgramError = ProgramError
untrue Refused = Refused
untrue Limit = Limit
untrue ReadFault = ReadFault
untrue WriteFault = WriteFault
untrue Memory = Memory

-- the report line of a run whose answer is true
abbrev pub true_line : List ℕ
true_line = codes "=> true" ++ 10 ∷ []

-- the status of a run of that report line which ended with that status: where the truth is asked for, it is done only if its
-- answer is true
abbrev pub status_told : Bool → List ℕ → Status → Status
status_told truth line status = if truth then (if bytes_eq line true_line then status else untrue status) else status

-- the limits of a run, where it is asked what was used of them
abbrev pub limits_told : Bool → Limits → Option Limits
limits_told asked limits = if asked then Some limits else None

-- what is told of a run in parts
abbrev pub parts_told : Telling → Limits → Option Trace → Run → Saying
parts_told telling limits trace parts = said.Ran (record parts { limits = limits_told telling.stats limits; trace = trace })

-- A run writes what its program printed, and then its report line, with these lines of its trace behind it. It is told in parts too
-- where that is asked for.
abbrev pub run_report : Telling → Limits → Ran → List ℕ → Option Trace → Option Run → Report
run_report telling limits ran lines trace parts =
    record {
      out = with_summary telling.classes ran.counters.steps ran.output;
      err = with_stats telling.stats ran.counters limits (ran.line ++ lines);
      status = status_told telling.truth ran.line ran.status;
      stored = None;
      said = option_map (parts_told telling limits trace) parts;
    }
