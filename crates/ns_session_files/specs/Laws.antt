-- What is said of sessions by the laws about them.
use Rattle.std.specs.Prelude.{◌≡◌, ℕ, List, map, IsSome}
use Rattle.ns_base.specs.declared.limits.Limits.{Limits}
use Rattle.ns_json.specs.declared.saying.Run.{Run}
use Rattle.ns_moves.specs.State.{ending_of}
use Rattle.ns_run_code.specs.declared.run.Ran.{Ran}
use Rattle.ns_run_told.specs.Laws.{line_of}
use Rattle.ns_session.specs.Robin.{session_run}
use Rattle.ns_session.specs.Member.{Application, MemberView, StandsAlone}
use Rattle.ns_session_files.specs.Answer.{IsAdmitted}
use Rattle.ns_session_files.specs.Joint.{part_of, run_of}
use Rattle.ns_session_files.specs.Making.{Source, application_of}
use Rattle.ns_session_files.specs.Stood.{run_at}

-- the application of a member of a session
abbrev pub application_in : MemberView → Application
application_in member = member.application

-- The applications of a session stay the same, in their order.
abbrev pub KeepsApplications : ℕ → Type 0
KeepsApplications quantum = (applications : List Application) → map application_in (session_run quantum applications).members ≡ applications

-- An application of a source that has ended: it stands alone, unless it shares the board.
pub record HasStood (limits : Limits) (source : Source) (member : MemberView) : Type 0 where
  pub application : member.application ≡ application_of limits source
  pub admitted : IsAdmitted source
  pub alone : StandsAlone member
  pub ended : IsSome (ending_of member.state)

-- Its run is the one that is told of its source.
abbrev pub AppliesAsMeant : Limits → Type 0
AppliesAsMeant limits =
    (source : Source) (member : MemberView) → HasStood limits source member → run_at member ≡ run_of limits source member

-- Of one run, its parts and its lines tell the same: what it printed, how it ended, and what it used.
pub record TellsTheSame (ran : Ran) (part : Run) : Type 0 where
  pub output : part.output ≡ ran.output
  pub line : line_of part.end ≡ ran.line
  pub used : part.used ≡ ran.counters

-- So it is of each application.
abbrev pub PartsTellRuns : Type 0
PartsTellRuns = (member : MemberView) → TellsTheSame (run_at member) (part_of member)
