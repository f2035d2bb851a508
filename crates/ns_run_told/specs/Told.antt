-- The parts of what is told of a run that has ended (this profile).
use Rattle.std.specs.Prelude.{ℕ, ◌-◌, List, [], length, take, drop, Option, Some, None}
use Rattle.std.specs.List.{slice_index_or}
use Rattle.ns_base.specs.declared.limits.Limits.{Limits}
use Rattle.ns_base.specs.declared.place.Place.{Place}
use Rattle.ns_code.specs.declared.program.CodeProgram.{CodeProgram}
use Rattle.ns_code.specs.Selector.{selector_text}
use Rattle.ns_world.specs.declared.ending.Ending.{Ending}
use Rattle.ns_world.specs.declared.ending.Ending.TheVariants as ending
use Rattle.ns_world.specs.declared.ending.LimitKind.{LimitKind}
use Rattle.ns_world.specs.declared.ending.RunError.{RunError}
use Rattle.ns_world.specs.Heap.{Heap}
use Rattle.ns_world.specs.World.{counters_of}
use Rattle.ns_mirror.specs.Naming.{class_text}
use Rattle.ns_moves.specs.Report.{kind_text, limit_text, value_text}
use Rattle.ns_moves.specs.State.{State, ending_of, world_of}
use Rattle.ns_run_code.specs.Machine.{begins_with, end_of, rested}
use Rattle.ns_json.specs.declared.saying.End.{End}
use Rattle.ns_json.specs.declared.saying.End.TheVariants.{Done, Error, Limit}
use Rattle.ns_json.specs.declared.saying.FilePlace.{FilePlace}
use Rattle.ns_json.specs.declared.saying.Run.{Run}
use Rattle.ns_json.specs.declared.saying.Site.{Site}

-- a place by the name of its file
abbrev pub told_place : List (List ℕ) → Option Place → Option FilePlace
told_place files (Some place) = Some (record { file = slice_index_or files place.file []; line = place.line; col = place.col })
told_place files None = None

-- the send of an error
abbrev pub told_site : CodeProgram → List (List ℕ) → RunError → Site
told_site code files error =
    record { class = class_text code error.class; selector = selector_text code error.sel.0; place = told_place files error.place }

abbrev pub limit_end : LimitKind → End
limit_end limit = Limit (limit_text limit)

-- an ending: the text of its value, the name of its kind with its send, or the name of its limit
abbrev pub told_end : Heap → CodeProgram → List (List ℕ) → Ending → End
told_end heap code files (ending.Done value) = Done (value_text heap code value)
told_end heap code files (ending.Error error) = Error (kind_text error.kind) (told_site code files error)
told_end heap code files (ending.Limit limit) = limit_end limit

-- a run that ended so, without its trace and its limits
abbrev pub told_with : CodeProgram → State → Ending → Run
told_with code state ending =
    record {
      end = told_end (world_of state).cells code code.files ending;
      output = (world_of state).output;
      used = counters_of (world_of state);
      trace = None;
      limits = None;
    }

-- what is told of a run that has come to rest
abbrev pub run_told : CodeProgram → State → Run
run_told code state = told_with code state (end_of (ending_of state))

-- what is told of the run of some code within these limits with these arguments
abbrev pub code_told : CodeProgram → Limits → List (List ℕ) → Run
code_told code limits arguments = run_told code (rested code (begins_with code limits arguments))

-- what stands in a report line between its first three bytes and its line feed: the text of a value
abbrev pub text_in : List ℕ → List ℕ
text_in line = take (length line - 4) (drop 3 line)
