-- What a session of applications tells: how each has ended when all have.
use Rattle.std.specs.Prelude.{ℕ, ◌+◌, Bool, List, [], ◌∷◌, ◌++◌, map, codes, Option, Some, None, if◌then◌else◌}
use Rattle.std.specs.Fmt.{decimal}
use Rattle.ns_base.specs.declared.limits.Limits.{Limits}
use Rattle.ns_base.specs.declared.status.Status.{Status}
use Rattle.ns_base.specs.declared.status.Status.TheVariants.{Done, ProgramError, Refused, Limit, ReadFault, WriteFault, Memory}
use Rattle.ns_base.specs.Files.{Files}
use Rattle.ns_run_words.specs.Application.{Asked, asked_of}
use Rattle.ns_gen_code.specs.Code.{code_of}
use Rattle.ns_json.specs.declared.saying.Run.{Run}
use Rattle.ns_run_code.specs.Machine.{told_at}
use Rattle.ns_run_code.specs.Run.{ran_of}
use Rattle.ns_run_code.specs.declared.run.Ran.{Ran}
use Rattle.ns_run_told.specs.Told.{run_told}
use Rattle.ns_model.specs.Whole.{meaning_of_run}
use Rattle.ns_session.specs.Robin.{session_run}
use Rattle.ns_session.specs.Member.{MemberView}
use Rattle.ns_session_files.specs.Making.{Making, Refusal, Source, all_made, application_of, files_named, made, refused}
use Rattle.ns_session_files.specs.declared.joint.Told.{Told}
use Rattle.ns_session_files.specs.declared.joint.ToldSession.{ToldSession}

-- ---- one application

-- the run of an application that stands so at the end: without the board it is the run that its source means on its own
abbrev pub run_of : Limits → Source → MemberView → Ran
run_of limits source member =
    if source.grants.board then told_at (code_of source.meant) member.state
    else ran_of (meaning_of_run source.meant [] source.grants limits)

-- ---- all applications

abbrev pub runs_of : Limits → List Source → List MemberView → List Ran
runs_of limits [] members = []
runs_of limits (source ∷ sources) [] = []
runs_of limits (source ∷ sources) (member ∷ members) = run_of limits source member ∷ runs_of limits sources members

-- the runs of applications that take turns of so many steps until all have ended
abbrev pub runs : Limits → ℕ → List Source → List Ran
runs limits quantum sources = runs_of limits sources (session_run quantum (map (application_of limits) sources)).members

-- ---- in parts

-- what the run of an application that stands so at the end tells in parts
abbrev pub part_of : MemberView → Run
part_of member = run_told member.application.code member.state

-- what the runs of all tell so, where it is asked for
abbrev pub parts_of : Bool → List MemberView → Option (List Run)
parts_of in_parts members = if in_parts then Some (map part_of members) else None

-- what those of applications tell so that take turns of so many steps until all have ended
abbrev pub parts : Bool → Limits → ℕ → List Source → Option (List Run)
parts in_parts limits quantum sources = parts_of in_parts (session_run quantum (map (application_of limits) sources)).members

-- ---- what is told

-- the number of an application, what it printed, and its report line
abbrev pub text_of : ℕ → List ℕ → List ℕ → List ℕ
text_of number output line = codes "app " ++ decimal number ++ 10 ∷ [] ++ output ++ line

abbrev pub run_text : ℕ → Ran → List ℕ
run_text number ran = text_of number ran.output ran.line

-- those of all, of which the first has that number
abbrev pub text_from : ℕ → List Ran → List ℕ
text_from number [] = []
text_from number (ran ∷ rans) = run_text number ran ++ text_from (number + 1) rans

-- the first status that isn't Done
abbrev pub status_then : Status → Status → Status
status_then Done other = other
status_then ProgramError other = ProgramError
status_then Refused other = Refused
status_then Limit other = Limit
status_then ReadFault other = ReadFault
status_then WriteFault other = WriteFault
status_then Memory other = Memory

abbrev pub status_of_all : List Ran → Status
status_of_all [] = Done
status_of_all (ran ∷ rans) = status_then ran.status (status_of_all rans)

abbrev pub told_of : List Ran → Told
told_of rans = record { out = text_from 0 rans; status = status_of_all rans }

-- what a session comes to: the first refusal of an application, or what is told of all
pub data Joint : Type 0 where
  stopped_for : (why : Refusal) → Joint
  has_run : (told : ToldSession) → Joint

-- what the session of these tells, in parts too where it is asked for
abbrev pub session_told : Bool → Limits → ℕ → List Source → ToldSession
session_told in_parts limits quantum sources =
    record { told = told_of (runs limits quantum sources); parts = parts in_parts limits quantum sources }

abbrev pub of_making : Bool → Limits → ℕ → Making → Joint
of_making in_parts limits quantum (made sources) = has_run (session_told in_parts limits quantum sources)
of_making in_parts limits quantum (refused why) = stopped_for why

-- the session of applications that are asked for, over these texts of their files
abbrev pub joint : Bool → Bool → Limits → ℕ → List Asked → List (Option (List ℕ)) → Joint
joint in_parts lib limits quantum asked texts = of_making in_parts limits quantum (all_made lib asked texts)

-- that of those that words ask for, over these texts of their files, or over the files' own
abbrev pub joint_of : Bool → Bool → Limits → ℕ → List (List ℕ) → List (Option (List ℕ)) → Joint
joint_of in_parts lib limits quantum words texts = joint in_parts lib limits quantum (map asked_of words) texts

abbrev pub joint_over : Files → Bool → Bool → Limits → ℕ → List (List ℕ) → Joint
joint_over files in_parts lib limits quantum words = joint_of in_parts lib limits quantum words (map files (files_named words))
