-- Isolation over turns: a host begins a send in two machines that are alike, and gives both the same turns.
use Rattle.std.specs.Prelude.{◌≡◌, ℕ, List, [], ◌∷◌, IsTrue}
use Rattle.ns_base.specs.declared.selector.Sel.{Sel}
use Rattle.ns_code.specs.declared.program.CodeProgram.{CodeProgram}
use Rattle.ns_facets.specs.declared.row.Grants.{Grants}
use Rattle.ns_world.specs.declared.value.Value.{Value}
use Rattle.ns_world.specs.Alike.{Renaming}
use Rattle.ns_moves.specs.State.{State, is_idle}
use Rattle.ns_moves.specs.Turn.{Turns}
use Rattle.ns_moves.specs.Starts.{begun}
use Rattle.ns_moves.specs.Valid.{Valid}
use Rattle.ns_moves.specs.Beginning.{MayBegin}
use Rattle.ns_machine_alike.specs.Isolated.{StatesAlike, RunsAlike}

-- ---- a send and its turns

-- Turns of these sizes, the last one first, lead from one state to another.
abbrev pub TurnsLead : CodeProgram → List ℕ → State → State → Type 0
TurnsLead code [] old new = old ≡ new
TurnsLead code (steps ∷ earlier) old new = (between : State) × TurnsLead code earlier old between × Turns code steps between new

-- A send of a host is under way: it was begun where a valid state was idle, and turns of these sizes, the last one first, led here.
pub record SendIsUnderway (code : CodeProgram) (grants : Grants) (receiver : Value) (sel : Sel) (arguments : List Value) (idle : State) (turns : List ℕ) (now : State) : Type 0 where
  pub valid : Valid code grants idle
  pub may : MayBegin code receiver sel arguments idle
  pub leads : TurnsLead code turns (begun receiver sel arguments idle) now

-- ---- the law

-- Two sends from states that are alike have had the same turns: the runs are alike.
abbrev pub TurnsAreAlike : CodeProgram → Grants → Grants → Type 0
TurnsAreAlike code grants grants' =
    (pairs : Renaming) (receiver other : Value) (sel : Sel) (arguments others : List Value) (turns : List ℕ) (first second one two : State)
    → SendIsUnderway code grants receiver sel arguments first turns one → SendIsUnderway code grants' other sel others second turns two
    → StatesAlike pairs (receiver ∷ arguments) (other ∷ others) first second
    → RunsAlike pairs (receiver ∷ arguments) (other ∷ others) first second one two

-- Where these turns led a send to here, they lead it in each idle state of the same code that is alike to where the run is alike.
abbrev pub TurnsToTheSame : CodeProgram → Grants → Value → Sel → List Value → State → List ℕ → State → Type 0
TurnsToTheSame code grants receiver sel arguments first turns one =
    (pairs : Renaming) (other : Value) (others : List Value) (second : State)
    → Valid code grants second → IsTrue (is_idle second)
    → StatesAlike pairs (receiver ∷ arguments) (other ∷ others) first second
    → (two : State) × SendIsUnderway code grants other sel others second turns two
    × RunsAlike pairs (receiver ∷ arguments) (other ∷ others) first second one two

-- So it is with all turns of each send.
abbrev pub TurnsComeToTheSame : CodeProgram → Grants → Grants → Type 0
TurnsComeToTheSame code grants grants' =
    (receiver : Value) (sel : Sel) (arguments : List Value) (turns : List ℕ) (first one : State)
    → SendIsUnderway code grants receiver sel arguments first turns one
    → TurnsToTheSame code grants' receiver sel arguments first turns one

-- ---- one turn more

-- A send that was under way before a turn of so many steps is so after it, and these turns lead to the same in each alike machine.
abbrev pub GoesOnAlike : CodeProgram → Grants → ℕ → State → State → Type 0
GoesOnAlike code grants steps old new =
    (receiver : Value) (sel : Sel) (arguments : List Value) (turns : List ℕ) (idle : State)
    → SendIsUnderway code grants receiver sel arguments idle turns old
    → SendIsUnderway code grants receiver sel arguments idle (steps ∷ turns) new
    × ((grants' : Grants) → TurnsToTheSame code grants' receiver sel arguments idle (steps ∷ turns) new)

-- So each turn goes.
abbrev pub TurnsGoOnAlike : CodeProgram → Grants → Type 0
TurnsGoOnAlike code grants = (steps : ℕ) (old new : State) → Turns code steps old new → GoesOnAlike code grants steps old new
