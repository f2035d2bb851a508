-- What begins is valid.
use Rattle.std.specs.Prelude.{ℕ, List, [], ◌∷◌, length, ◌≤◌, IsTrue}
use Rattle.ns_base.specs.declared.limits.Limits.{Limits}
use Rattle.ns_base.specs.declared.selector.Sel.{Sel}
use Rattle.ns_base.specs.Limits.{InRange}
use Rattle.ns_code.specs.declared.program.CodeProgram.{CodeProgram}
use Rattle.ns_code.specs.Fits.{Fits}
use Rattle.ns_verify.specs.Verify.{IsSound}
use Rattle.ns_code.specs.declared.own.Own.TheVariants.{MainArgs}
use Rattle.ns_world.specs.declared.value.Value.{Value}
use Rattle.ns_world.specs.declared.value.Value.TheVariants.{Ref}
use Rattle.ns_world.specs.Lawful.{IsLiveValue}
use Rattle.ns_facets.specs.declared.row.Grants.{Grants}
use Rattle.ns_moves.specs.Control.{Progress}
use Rattle.ns_moves.specs.Start.{standing_cells, platform}
use Rattle.ns_moves.specs.Lawful.{FitsSelector}
use Rattle.ns_moves.specs.State.{State, is_idle, world_of}
use Rattle.ns_moves.specs.Returns.{opening}
use Rattle.ns_moves.specs.Sends.{own_sel}
use Rattle.ns_moves.specs.Starts.{new_machine, started, begun}
use Rattle.ns_moves.specs.Valid.{WorldIsValid, HasArgumentCells, PendingIsValid, Valid}

-- A new machine of sound code that fits its fields is in a valid state, with limits in range.
abbrev pub NewIsValid : CodeProgram → Grants → Type 0
NewIsValid code grants =
    (limits : Limits) (arguments : List (List ℕ)) → IsSound code → Fits code → InRange limits → Valid code grants (new_machine code limits grants arguments)

-- Its start, the first opening send, keeps a state valid.
abbrev pub StartKeepsValid : CodeProgram → Grants → Type 0
StartKeepsValid code grants = (state : State) → Valid code grants state → Valid code grants (started code state)

-- The second opening send, to the live value of the first one, can wait.
abbrev pub SecondIsValid : CodeProgram → Grants → Type 0
SecondIsValid code grants =
    (arguments : ℕ) (value : Value) (progress : Progress) → WorldIsValid code (standing_cells code grants) progress
    → HasArgumentCells code grants arguments progress.world.cells → IsLiveValue progress.world.cells code value
    → PendingIsValid code progress.world.cells (opening code value (own_sel code MainArgs) (platform ∷ Ref arguments ∷ []) progress) []

-- What a host may send: to a live value, with at most 255 live arguments, as many as the selector takes.
pub record MayBegin (code : CodeProgram) (receiver : Value) (sel : Sel) (arguments : List Value) (state : State) : Type 0 where
  pub idle : IsTrue (is_idle state)
  pub live : IsLiveValue (world_of state).cells code receiver
  pub fits : FitsSelector (world_of state).cells code sel arguments
  pub few : length arguments ≤ 255

-- With it a valid state that is idle goes on validly.
abbrev pub HostKeepsValid : CodeProgram → Grants → Type 0
HostKeepsValid code grants =
    (receiver : Value) (sel : Sel) (arguments : List Value) (state : State) → Valid code grants state → MayBegin code receiver sel arguments state
    → Valid code grants (begun receiver sel arguments state)
