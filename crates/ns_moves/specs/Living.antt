-- What stays live while a run goes on.
use Rattle.std.specs.Prelude.{ℕ, List}
use Rattle.ns_base.specs.declared.selector.Sel.{Sel}
use Rattle.ns_code.specs.declared.program.CodeProgram.{CodeProgram}
use Rattle.ns_facets.specs.declared.row.Grants.{Grants}
use Rattle.ns_world.specs.declared.value.Value.{Value}
use Rattle.ns_world.specs.Lawful.{IsLiveValue}
use Rattle.ns_moves.specs.State.{State, world_of}
use Rattle.ns_moves.specs.Move.{moves}
use Rattle.ns_moves.specs.Turn.{Turns}
use Rattle.ns_moves.specs.Starts.{started, begun}
use Rattle.ns_moves.specs.Valid.{Valid}
use Rattle.ns_moves.specs.Beginning.{MayBegin}

-- Each value that is live at one state is live at another.
abbrev pub KeepsLive : CodeProgram → State → State → Type 0
KeepsLive code old new = (value : Value) → IsLiveValue (world_of old).cells code value → IsLiveValue (world_of new).cells code value

-- So it is after any moves from a valid state.
abbrev pub MovesKeepLive : CodeProgram → Grants → Type 0
MovesKeepLive code grants = (count : ℕ) (state : State) → Valid code grants state → KeepsLive code state (moves code count state)

-- So it is after a turn.
abbrev pub TurnsKeepLive : CodeProgram → Grants → Type 0
TurnsKeepLive code grants = (steps : ℕ) (old new : State) → Valid code grants old → Turns code steps old new → KeepsLive code old new

-- So it is from before a start on.
abbrev pub RunsKeepLive : CodeProgram → Grants → Type 0
RunsKeepLive code grants =
    (count : ℕ) (state : State) → Valid code grants (started code state) → KeepsLive code state (moves code count (started code state))

-- So it is from before a send of the host on.
abbrev pub SendsKeepLive : CodeProgram → Grants → Type 0
SendsKeepLive code grants =
    (receiver : Value) (sel : Sel) (arguments : List Value) (count : ℕ) (idle : State) → Valid code grants idle
    → MayBegin code receiver sel arguments idle → KeepsLive code idle (moves code count (begun receiver sel arguments idle))
