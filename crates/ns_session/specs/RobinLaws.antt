-- What is said of turns and of the round robin by the laws about them.
use Rattle.std.specs.Prelude.{◌≡◌, ◌≤◌, ℕ, Bool, List, Some, slice_get}
use Rattle.ns_code.specs.declared.program.CodeProgram.{CodeProgram}
use Rattle.ns_facets.specs.declared.board.Board.{Board}
use Rattle.ns_facets.specs.declared.row.Grants.{Grants}
use Rattle.ns_moves.specs.State.{State}
use Rattle.ns_moves.specs.Turn.{Turns}
use Rattle.ns_moves.specs.Valid.{Valid}
use Rattle.ns_session.specs.Member.{Application, MemberView, MayStart, TurnOf}
use Rattle.ns_session.specs.Play.{opened}
use Rattle.ns_session.specs.Reached.{StateIsReached}
use Rattle.ns_session.specs.Rounds.{RoundRobin}
use Rattle.ns_session.specs.Session.{SessionView}
use Rattle.ns_session.specs.Robin.{robin, session_run}
use Rattle.ns_session.specs.Turned.{left_as, turned, turned_beside}

-- In a valid state a turn leaves what the function gives.
abbrev pub TurnsAreTurned : CodeProgram → Grants → Type 0
TurnsAreTurned code grants =
    (steps : ℕ) (old new : State) → Valid code grants old → Turns code steps old new → new ≡ turned code steps old

-- And what the function gives some turn leaves.
abbrev pub TurnsAreMade : CodeProgram → Grants → Type 0
TurnsAreMade code grants = (steps : ℕ) (state : State) → Valid code grants state → Turns code steps state (turned code steps state)

-- So does the turn of an application beside a shared board, whether it is granted or not.
abbrev pub TurnsAreTurnedBeside : Application → Type 0
TurnsAreTurnedBeside application =
    (granted : Bool) (steps : ℕ) (old : State) (shared : Board) (new : State) (left : Board) → StateIsReached application old
    → TurnOf granted application.code steps old shared new left
    → left_as new left ≡ turned_beside granted application.code steps old shared

-- Each of these applications stands where turns lead.
abbrev pub AreReached : List MemberView → Type 0
AreReached members =
    (number : ℕ) (member : MemberView) → slice_get members number ≡ Some member → StateIsReached member.application member.state

-- The round robin of such applications leaves what the function gives.
abbrev pub RoundRobinIsRobin : ℕ → Type 0
RoundRobinIsRobin quantum =
    (old new : SessionView) → 1 ≤ quantum → AreReached old.members → RoundRobin quantum old new → new ≡ robin quantum old

-- Each of these applications may start.
abbrev pub MayAllStart : List Application → Type 0
MayAllStart applications =
    (number : ℕ) (application : Application) → slice_get applications number ≡ Some application → MayStart application

-- Hence so does that of applications which were admitted and have started.
abbrev pub SessionsRun : ℕ → Type 0
SessionsRun quantum =
    (applications : List Application) (new : SessionView) → 1 ≤ quantum → MayAllStart applications → RoundRobin quantum (opened applications) new
    → new ≡ session_run quantum applications
