-- What moves leave of what was there.
use Rattle.std.specs.Prelude.{ℕ, ◌≤◌}
use Rattle.ns_code.specs.declared.program.CodeProgram.{CodeProgram}
use Rattle.ns_world.specs.Later.{IsLater}
use Rattle.ns_moves.specs.Control.{Progress}
use Rattle.ns_moves.specs.State.{State, progress_of}
use Rattle.ns_moves.specs.Move.{moves}

-- A run goes on: its world is a later one, and it has begun no method less.
pub record GoesOnward (old new : Progress) : Type 0 where
  pub later : IsLater old.world new.world
  pub begun : old.begun ≤ new.begun

-- So it does by each of its moves.
abbrev pub MovesGoOnward : CodeProgram → Type 0
MovesGoOnward code = (count : ℕ) (state : State) → GoesOnward (progress_of state) (progress_of (moves code count state))
