-- The turn of an application as a function.
use Rattle.std.specs.Prelude.{ℕ, ◌-◌, ◌==◌, ◌&&◌, ◌||◌, Bool, true, false, if◌then◌else◌}
use Rattle.ns_code.specs.declared.program.CodeProgram.{CodeProgram}
use Rattle.ns_facets.specs.declared.board.Board.{Board}
use Rattle.ns_moves.specs.Doubling.{until}
use Rattle.ns_moves.specs.Falling.{power_left}
use Rattle.ns_moves.specs.Move.{move}
use Rattle.ns_moves.specs.State.{State, swapped, world_of}
use Rattle.ns_moves.specs.Turn.{is_still, charges}
use Rattle.ns_session.specs.Member.{board_of}

-- where a turn stands: the steps that are left of it, and the run
pub record TurnUnderway : Type 0 where
  pub steps : ℕ
  pub state : State

-- whether it is over: the run moves no more, or its next move would charge a step and none is left
abbrev pub is_over : CodeProgram → TurnUnderway → Bool
is_over code turn = is_still turn.state || (charges code turn.state && turn.steps == 0)

-- the steps that a move leaves, by whether it charges one
abbrev pub steps_behind : Bool → ℕ → ℕ
steps_behind true steps = steps - 1
steps_behind false steps = steps

-- a turn on by one move, unless it is over
abbrev pub moved_on : CodeProgram → TurnUnderway → TurnUnderway
moved_on code turn =
    if is_over code turn then turn
    else record { steps = steps_behind (charges code turn.state) turn.steps; state = move code turn.state }

-- a turn of so many steps: moves until it is over, which it is before two to that power (by a law)
abbrev pub turned : CodeProgram → ℕ → State → State
turned code steps state =
    (until (is_over code) (moved_on code) 0 (power_left code (world_of state).limits) (record { steps = steps; state = state })).state

-- What a turn leaves: where the run stands, and the shared board.
pub record AfterTurn : Type 0 where
  pub state : State
  pub board : Board

abbrev pub left_as : State → Board → AfterTurn
left_as state board = record { state = state; board = board }

-- the run has its own board again, and the shared one is as it left it
abbrev pub given_back : Board → State → AfterTurn
given_back own inside = left_as (swapped own inside) (board_of inside)

-- the turn of a run beside a shared board, by whether that is granted to it
abbrev pub turned_beside : Bool → CodeProgram → ℕ → State → Board → AfterTurn
turned_beside true code steps state shared = given_back (board_of state) (turned code steps (swapped shared state))
turned_beside false code steps state shared = left_as (turned code steps state) shared
