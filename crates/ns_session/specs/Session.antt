-- A session: applications in the order in which they were added, and the board that some of them share.
use Rattle.std.specs.Prelude.{◌≡◌, ◌≢◌, ℕ, List, [], ◌∷◌, ◌++◌, Option, Some, None, slice_get, slice_set, false}
use Rattle.ns_world.specs.declared.ending.Ending.{Ending}
use Rattle.ns_facets.specs.declared.board.Board.{Board}
use Rattle.ns_moves.specs.State.{State, ending_of}
use Rattle.ns_machine.specs.declared.stage.Turn.{Turn}
use Rattle.ns_machine.specs.Turned.{turn_at}
use Rattle.ns_session.specs.Member.{Application, MemberView, starting, TurnOf, StandsAlone, report_of, line_of}

-- what a session is to its host
pub record SessionView : Type 0 where
  pub members : List MemberView
  pub board : Board

-- ---- what is done

-- the session with one more application, which has started
abbrev pub added : Application → SessionView → SessionView
added application session = record session { members = session.members ++ starting application ∷ [] }

-- A pair of a schedule: an application, by its number, and the steps of its turn.
pub record Pair : Type 0 where
  pub number : ℕ
  pub steps : ℕ

-- That application has a turn of so many steps, and nothing else has changed.
pub record HasTurn (member : MemberView) (pair : Pair) (old new : SessionView) : Type 0 where
  pub state : State
  pub turn : TurnOf member.application.grants.board member.application.code pair.steps member.state old.board state new.board
  pub members : new.members ≡ slice_set old.members pair.number (record member { state = state })

-- by whether an application has that number: where none has it, nothing changes
abbrev pub PlaysAt : Option MemberView → Pair → SessionView → SessionView → Type 0
PlaysAt None pair old new = new ≡ old
PlaysAt (Some member) pair old new = HasTurn member pair old new

-- One pair of a schedule is played.
abbrev pub Plays : Pair → SessionView → SessionView → Type 0
Plays pair old new = PlaysAt (slice_get old.members pair.number) pair old new

-- No application but that one has changed.
abbrev pub OthersStay : ℕ → SessionView → SessionView → Type 0
OthersStay number old new = (other : ℕ) → other ≢ number → slice_get new.members other ≡ slice_get old.members other

-- The board stays, where the application wasn't granted it.
abbrev pub BoardStays : ℕ → SessionView → SessionView → Type 0
BoardStays number old new =
    (member : MemberView) → slice_get old.members number ≡ Some member → member.application.grants.board ≡ false → new.board ≡ old.board

-- ---- what is told

-- how a run has ended, if there is one and it has
abbrev pub ending_in : Option MemberView → Option Ending
ending_in None = None
ending_in (Some member) = ending_of member.state

-- the report line of a run, if there is one and it has ended
abbrev pub report_in : List (List ℕ) → Option MemberView → Option (List ℕ)
report_in files None = None
report_in files (Some member) = report_of files member

-- that line with the names that the code has for its files
abbrev pub line_in : Option MemberView → Option (List ℕ)
line_in None = None
line_in (Some member) = line_of member

-- what a turn of an application answers: how its run has ended, or that it goes on
abbrev pub AnswersTurn : Turn → Option MemberView → Type 0
AnswersTurn turn None = ⊥
AnswersTurn turn (Some member) = turn ≡ turn_at member.state

-- The application of that number, if it isn't granted the board, stands where its run on its own stands.
abbrev pub IsAloneAt : ℕ → SessionView → Type 0
IsAloneAt number session = (member : MemberView) → slice_get session.members number ≡ Some member → StandsAlone member
