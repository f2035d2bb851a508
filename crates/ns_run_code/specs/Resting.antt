-- Where runs come to rest, from any valid state, and what a machine has run to.
use Rattle.std.specs.Prelude.{◌≡◌, ℕ, List, true}
use Rattle.ns_base.specs.declared.limits.Limits.{Limits}
use Rattle.ns_base.specs.declared.selector.Sel.{Sel}
use Rattle.ns_base.specs.Limits.{InRange}
use Rattle.ns_code.specs.declared.program.CodeProgram.{CodeProgram}
use Rattle.ns_code.specs.Fits.{Fits}
use Rattle.ns_facets.specs.declared.row.Grants.{Grants}
use Rattle.ns_verify.specs.Verify.{IsSound}
use Rattle.ns_world.specs.declared.ending.Ending.{Ending}
use Rattle.ns_world.specs.declared.value.Value.{Value}
use Rattle.ns_moves.specs.Beginning.{MayBegin}
use Rattle.ns_moves.specs.Falling.{run_left}
use Rattle.ns_moves.specs.Move.{moves}
use Rattle.ns_moves.specs.Starts.{begun}
use Rattle.ns_moves.specs.State.{State}
use Rattle.ns_moves.specs.Turn.{is_still}
use Rattle.ns_moves.specs.Valid.{Valid}
use Rattle.ns_machine.specs.Turning.{Ran}
use Rattle.ns_run_code.specs.Machine.{begins_with, rested}

-- Code that is admitted, and limits in their ranges.
pub record IsRunnable (code : CodeProgram) (limits : Limits) : Type 0 where
  pub sound : IsSound code
  pub fits : Fits code
  pub range : InRange limits

-- ---- where a run comes to rest

-- There it moves no more and is in a valid state, and as many moves as it can make at most lead there.
pub record ComesToRest (code : CodeProgram) (grants : Grants) (state : State) : Type 0 where
  pub still : is_still (rested code state) ≡ true
  pub valid : Valid code grants (rested code state)
  pub moved : moves code (run_left code state) state ≡ rested code state

-- From each valid state a run comes to rest.
abbrev pub ValidComesToRest : CodeProgram → Grants → Type 0
ValidComesToRest code grants = (state : State) → Valid code grants state → ComesToRest code grants state

-- Moves don't change where it comes to rest.
abbrev pub MovesKeepRest : CodeProgram → Grants → Type 0
MovesKeepRest code grants =
    (count : ℕ) (state : State) → Valid code grants state → rested code (moves code count state) ≡ rested code state

-- A state that moves no more is where it comes to rest.
abbrev pub StillIsRested : CodeProgram → Grants → Type 0
StillIsRested code grants = (state : State) → Valid code grants state → is_still state ≡ true → rested code state ≡ state

-- ---- what a machine has run to

-- A run from a valid state to an end has come to where it comes to rest.
abbrev pub ValidEndsAtRest : CodeProgram → Grants → Type 0
ValidEndsAtRest code grants =
    (old new : State) (ending : Ending) → Valid code grants old → Ran code old ending new → new ≡ rested code old

-- So has the run of admitted code from its start on.
abbrev pub RunsEndAtRest : CodeProgram → Type 0
RunsEndAtRest code =
    (limits : Limits) (arguments : List (List ℕ)) (new : State) (ending : Ending) → IsRunnable code limits
    → Ran code (begins_with code limits arguments) ending new → new ≡ rested code (begins_with code limits arguments)

-- So has any send of a host, in a valid state in which it may be begun.
abbrev pub SendsEndAtRest : CodeProgram → Grants → Type 0
SendsEndAtRest code grants =
    (receiver : Value) (sel : Sel) (arguments : List Value) (state new : State) (ending : Ending) → Valid code grants state
    → MayBegin code receiver sel arguments state → Ran code (begun receiver sel arguments state) ending new
    → new ≡ rested code (begun receiver sel arguments state)
