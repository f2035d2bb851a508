-- What a move charges: at most one step, and exactly where that is told before it.
use Rattle.std.specs.Prelude.{◌≡◌, ◌⊎◌, ◌+◌, Bool, true, false, IsTrue, None}
use Rattle.ns_code.specs.declared.program.CodeProgram.{CodeProgram}
use Rattle.ns_world.specs.World.{stepped}
use Rattle.ns_moves.specs.Control.{Progress}
use Rattle.ns_moves.specs.Blocks.{is_block}
use Rattle.ns_moves.specs.State.{Evaluating, State, Pends, Stuck, progress_of, world_of}
use Rattle.ns_moves.specs.Move.{move}
use Rattle.ns_moves.specs.Turn.{is_still, ends_with_steps, charges}
use Rattle.ns_moves.specs.Charging.{will_charge}

-- whether a run is at a loss
abbrev pub is_stuck : State → Bool
is_stuck (Stuck progress) = true
is_stuck state = false

-- What waits to be evaluated is a block.
abbrev pub WaitsForBlock : State → Type 0
WaitsForBlock (Pends phase (Evaluating block arguments site) frames progress) = IsTrue (is_block progress.world.cells block)
WaitsForBlock state = Unit {0}

-- The next move finds what it takes.
pub record CanMove (code : CodeProgram) (state : State) : Type 0 where
  pub finds : is_stuck (move code state) ≡ false
  pub block : WaitsForBlock state

-- No step was left: with that the run has ended, and nothing has changed.
pub record NoneLeft (old : Progress) (after : State) : Type 0 where
  pub none : stepped old.world ≡ None
  pub ended : ends_with_steps after ≡ true
  pub same : progress_of after ≡ old

-- One step was charged, or none was left.
abbrev pub TookStep : Progress → State → Type 0
TookStep old after = ((world_of after).steps ≡ old.world.steps + 1) ⊎ NoneLeft old after

-- No step was charged, and none was missing.
pub record TookNone (old : Progress) (after : State) : Type 0 where
  pub steps : (world_of after).steps ≡ old.world.steps
  pub going : ends_with_steps after ≡ false

-- what a move took, by what was told of it
abbrev pub MoveTook : Bool → Progress → State → Type 0
MoveTook true old after = TookStep old after
MoveTook false old after = TookNone old after

-- A move takes a step where that was told, and else none.
abbrev pub TakesAsTold : CodeProgram → Type 0
TakesAsTold code =
    (state : State) → is_still state ≡ false → CanMove code state → MoveTook (will_charge code state) (progress_of state) (move code state)

-- So the test before a move tells whether it charges.
abbrev pub ChargesAsTold : CodeProgram → Type 0
ChargesAsTold code = (state : State) → CanMove code state → charges code state ≡ will_charge code state
