-- An application of a session: what it is, where its run stands, and what a turn does.
use Rattle.std.specs.Prelude.{◌≡◌, ℕ, ◌+◌, List, [], Option, option_map, Bool, true, false}
use Rattle.ns_base.specs.Limits.{InRange}
use Rattle.ns_code.specs.Fits.{Fits}
use Rattle.ns_verify.specs.Verify.{IsSound}
use Rattle.ns_moves.specs.Report.{report_line}
use Rattle.ns_base.specs.declared.limits.Limits.{Limits}
use Rattle.ns_code.specs.declared.program.CodeProgram.{CodeProgram}
use Rattle.ns_facets.specs.declared.row.Grants.{Grants}
use Rattle.ns_facets.specs.declared.board.Board.{Board}
use Rattle.ns_moves.specs.State.{State, progress_of, world_of, ending_of, swapped}
use Rattle.ns_moves.specs.Starts.{new_machine, started}
use Rattle.ns_moves.specs.Turn.{Turns, ends_with_steps, one_if}

-- what an application is: its code, the facets that it is granted, and its limits
pub record Application : Type 0 where
  pub code : CodeProgram
  pub grants : Grants
  pub limits : Limits

-- Its code was admitted and its limits are in their ranges.
pub record MayStart (application : Application) : Type 0 where
  pub sound : IsSound application.code
  pub fits : Fits application.code
  pub range : InRange application.limits

-- an application in a session, with the state of its run
pub record MemberView : Type 0 where
  pub application : Application
  pub state : State

-- ---- its start

-- the state in which its run starts: the first opening send waits, and there are no arguments
abbrev pub start_of : Application → State
start_of application = started application.code (new_machine application.code application.limits application.grants [])

-- an application that has started
abbrev pub starting : Application → MemberView
starting application = record { application = application; state = start_of application }

-- ---- its turns

-- the board of a run
abbrev pub board_of : State → Board
board_of state = (progress_of state).board

-- A turn with the board lent: the run has the shared board in this turn, and its own again after it.
pub record LentTurn (code : CodeProgram) (steps : ℕ) (old : State) (shared : Board) (new : State) (left : Board) : Type 0 where
  pub inside : State
  pub turns : Turns code steps (swapped shared old) inside
  pub state : new ≡ swapped (board_of old) inside
  pub board : left ≡ board_of inside

-- A turn without it: the shared board stays as it is.
pub record OwnTurn (code : CodeProgram) (steps : ℕ) (old : State) (shared : Board) (new : State) (left : Board) : Type 0 where
  pub turns : Turns code steps old new
  pub board : left ≡ shared

-- what a turn does to the state of an application and to the shared board, by whether the board is granted
abbrev pub TurnOf : Bool → CodeProgram → ℕ → State → Board → State → Board → Type 0
TurnOf true code steps old shared new left = LentTurn code steps old shared new left
TurnOf false code steps old shared new left = OwnTurn code steps old shared new left

-- ---- a run on its own

-- the steps that a run has used, and one more where the limit on steps ended it
abbrev pub taken : State → ℕ
taken state = (world_of state).steps + one_if (ends_with_steps state) 0

-- A state of the application's run on its own: one turn of as many steps as were taken leads there from its start.
abbrev pub IsAlone : Application → State → Type 0
IsAlone application state = Turns application.code (taken state) (start_of application) state

-- Without the board an application stands where its run on its own stands.
abbrev pub KeepsAlone : Bool → Application → State → Type 0
KeepsAlone true application state = Unit {0}
KeepsAlone false application state = IsAlone application state

-- So it is with this one.
abbrev pub StandsAlone : MemberView → Type 0
StandsAlone member = KeepsAlone member.application.grants.board member.application member.state

-- ---- what is told of it

-- what it has printed
abbrev pub transcript_of : MemberView → List ℕ
transcript_of member = (world_of member.state).output

-- the line that reports how its run has ended, if it has
abbrev pub report_of : List (List ℕ) → MemberView → Option (List ℕ)
report_of files member =
    option_map (report_line (world_of member.state).cells member.application.code files) (ending_of member.state)

-- that line, with the names that its code has for its files
abbrev pub line_of : MemberView → Option (List ℕ)
line_of member = report_of member.application.code.files member
