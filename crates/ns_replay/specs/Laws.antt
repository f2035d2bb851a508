-- What is said of replays by the laws about them.
use Rattle.std.specs.Prelude.{◌≡◌, ℕ, ◌≤◌, List, true, false}
use Rattle.ns_base.specs.declared.limits.Limits.{Limits}
use Rattle.ns_code.specs.declared.program.CodeProgram.{CodeProgram}
use Rattle.ns_facets.specs.declared.row.Grants.{Grants}
use Rattle.ns_moves.specs.State.{State}
use Rattle.ns_moves.specs.Turn.{is_still, Turns}
use Rattle.ns_moves.specs.Valid.{Valid}
use Rattle.ns_moves.specs.Starts.{new_machine, started}
use Rattle.ns_replay.specs.At.{position_in}
use Rattle.ns_replay.specs.Replay.{CanBegin}

-- Where a turn of so many steps leads from a state in which none is used, as many are used; or fewer, and then the run has come to
-- rest, and each longer turn leads there too.
pub record IsLeast (code : CodeProgram) (start : State) (step : ℕ) (state : State) : Type 0 where
  pub most : position_in state ≤ step
  pub goes_on : is_still state ≡ false → position_in state ≡ step
  pub rests : is_still state ≡ true → (more : ℕ) (later : State) → step ≤ more → Turns code more start later → later ≡ state

-- So it is wherever turns lead.
abbrev pub PositionsAreLeast : CodeProgram → Grants → Type 0
PositionsAreLeast code grants =
    (start : State) (step : ℕ) (state : State) → Valid code grants start → position_in start ≡ 0 → Turns code step start state
    → IsLeast code start step state

-- A machine that was made and started can be replayed.
abbrev pub StartedCanBegin : CodeProgram → Grants → Type 0
StartedCanBegin code grants = (limits : Limits) (arguments : List (List ℕ)) → CanBegin (started code (new_machine code limits grants arguments))
