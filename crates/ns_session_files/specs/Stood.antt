-- How applications stand at the end, and what is told of them so.
use Rattle.std.specs.Prelude.{ℕ, List, [], ◌∷◌, ◌++◌}
use Rattle.ns_run_code.specs.Machine.{told_at}
use Rattle.ns_run_code.specs.declared.run.Ran.{Ran}
use Rattle.ns_session.specs.Member.{MemberView, StandsAlone}
use Rattle.ns_session_files.specs.Joint.{run_text, status_then}
use Rattle.ns_session_files.specs.declared.joint.Told.{Told}

-- the run of an application that stands so
abbrev pub run_at : MemberView → Ran
run_at member = told_at member.application.code member.state

-- the runs of all
abbrev pub runs_at : List MemberView → List Ran
runs_at [] = []
runs_at (member ∷ members) = run_at member ∷ runs_at members

-- what was told, and that of one run behind it
abbrev pub with_run : ℕ → Ran → Told → Told
with_run number ran told = record { out = told.out ++ run_text number ran; status = status_then told.status ran.status }

-- Each that isn't granted the board stands where its run on its own stands.
abbrev pub AllStandAlone : List MemberView → Type 0
AllStandAlone [] = Unit {0}
AllStandAlone (member ∷ members) = StandsAlone member × AllStandAlone members
