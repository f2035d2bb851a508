-- What moves leave to be done, and why each run ends.
use Rattle.std.specs.Prelude.{◌≡◌, ℕ, ◌+◌, ◌-◌, ◌*◌, ◌^◌, ◌<◌, ◌≤◌, false}
use Rattle.ns_base.specs.declared.limits.Limits.{Limits}
use Rattle.ns_code.specs.declared.program.CodeProgram.{CodeProgram}
use Rattle.ns_facets.specs.declared.row.Grants.{Grants}
use Rattle.ns_moves.specs.State.{State, world_of}
use Rattle.ns_moves.specs.Move.{move}
use Rattle.ns_moves.specs.Turn.{is_still}
use Rattle.ns_moves.specs.Charging.{will_charge}
use Rattle.ns_moves.specs.Valid.{Valid}
use Rattle.ns_moves.specs.Left.{longest, weight, left}

-- In a valid state a move that charges no step lowers what can be done so.
abbrev pub FreeMovesLower : CodeProgram → Grants → Type 0
FreeMovesLower code grants =
    (state : State) → Valid code grants state → is_still state ≡ false → will_charge code state ≡ false
    → left code (move code state) < left code state

-- the most that a run within its limits can do without charging a step
abbrev pub most_left : CodeProgram → Limits → ℕ
most_left code limits = 2 + limits.depth * (1 + longest code.bodies * weight (longest code.bodies) limits.cells)

-- No valid state can do more.
abbrev pub LeftIsBounded : CodeProgram → Grants → Type 0
LeftIsBounded code grants = (state : State) → Valid code grants state → left code state ≤ most_left code (world_of state).limits

-- how much a run can still do: its steps, and what it can do without charging one
abbrev pub run_left : CodeProgram → State → ℕ
run_left code state =
    ((world_of state).limits.steps - (world_of state).steps) * (1 + most_left code (world_of state).limits) + left code state

-- Each move of a valid state lowers that, so each run ends.
abbrev pub MovesLower : CodeProgram → Grants → Type 0
MovesLower code grants =
    (state : State) → Valid code grants state → is_still state ≡ false → run_left code (move code state) < run_left code state

-- a power of two that passes all that a run within these limits can do
abbrev pub power_left : CodeProgram → Limits → ℕ
power_left code limits = limits.steps + limits.depth + (2 + longest code.bodies) * (limits.cells + 1)

-- No valid state has so much left.
abbrev pub LeftIsBelowPower : CodeProgram → Grants → Type 0
LeftIsBelowPower code grants =
    (state : State) → Valid code grants state → run_left code state + 1 ≤ 2 ^ power_left code (world_of state).limits
