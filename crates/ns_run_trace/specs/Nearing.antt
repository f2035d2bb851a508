-- How the state before the end is come to: a turn that leaves the last steps, and then single moves, counted once.
use Rattle.std.specs.Prelude.{◌≡◌, ℕ, zero, suc, ◌+◌, true, false}
use Rattle.ns_code.specs.declared.program.CodeProgram.{CodeProgram}
use Rattle.ns_moves.specs.Move.{moves}
use Rattle.ns_moves.specs.State.{State}
use Rattle.ns_moves.specs.Turn.{is_still, Turns}

-- A run is near its end, which it comes to with so many steps: it has had a turn of all of them but one, where it uses any.
abbrev pub IsNear : CodeProgram → ℕ → State → State → Type 0
IsNear code zero first near = near ≡ first
IsNear code (suc steps) first near = Turns code steps first near

-- So many moves are left: with them it moves no more, and with one less it does.
pub record MovesAreLeft (code : CodeProgram) (near : State) (count : ℕ) : Type 0 where
  pub still : is_still (moves code count near) ≡ true
  pub going : (fewer : ℕ) → count ≡ fewer + 1 → is_still (moves code fewer near) ≡ false

-- So many moves were made, before each of which it moved on.
pub record HasMoved (code : CodeProgram) (near : State) (count : ℕ) (now : State) : Type 0 where
  pub is : moves code count near ≡ now
  pub going : (fewer : ℕ) → count ≡ fewer + 1 → is_still (moves code fewer near) ≡ false
