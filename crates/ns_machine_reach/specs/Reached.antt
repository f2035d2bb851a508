-- What a run can touch: the cells that are reached from where it stands, and those that it makes.
use Rattle.std.specs.Prelude.{◌≡◌, ℕ, List, [], ◌∷◌, ◌++◌, Option, Some, None, Contains, IsSome, false}
use Rattle.ns_base.specs.declared.selector.Sel.{Sel}
use Rattle.ns_code.specs.declared.program.CodeProgram.{CodeProgram}
use Rattle.ns_facets.specs.declared.row.Grants.{Grants}
use Rattle.ns_world.specs.declared.value.Value.{Value}
use Rattle.ns_world.specs.declared.cell.FacetKind.{FacetKind}
use Rattle.ns_world.specs.declared.cell.FacetKind.TheVariants.{Console, Board}
use Rattle.ns_world.specs.declared.ending.Ending.{Ending}
use Rattle.ns_world.specs.declared.ending.Ending.TheVariants.{Done, Error, Limit}
use Rattle.ns_world.specs.Cell.{Cell, FacetCell}
use Rattle.ns_world.specs.Heap.{Heap, find_cell}
use Rattle.ns_world.specs.Reach.{IsInReach, held, referred, all_referred}
use Rattle.ns_moves.specs.Control.{Activation, Exit, FromMethod, FromBody, FromClause}
use Rattle.ns_moves.specs.State.{Leaving, Loud, Silent, Frame, Running, Looping, Pending, Sending, Performing, Evaluating, Phase, Start, First}
use Rattle.ns_moves.specs.State.{Second, Hosted, State, Unbegun, Going, Pends, Ended, Stuck, progress_of, world_of}
use Rattle.ns_moves.specs.Move.{moves}
use Rattle.ns_moves.specs.Turn.{is_still, Turns}
use Rattle.ns_moves.specs.Starts.{begun}
use Rattle.ns_moves.specs.Valid.{Valid}
use Rattle.ns_moves.specs.Beginning.{MayBegin}

-- ---- where a run stands

-- the cells that running code names: self, the holder of its declaration, and its environment
abbrev pub activation_roots : Activation → List ℕ
activation_roots activation = referred activation.self ++ (activation.holder ∷ referred activation.env)

-- those that the end of a body names
abbrev pub exit_roots : Exit → List ℕ
exit_roots FromMethod = []
exit_roots FromBody = []
exit_roots (FromClause object holder class) = object ∷ holder ∷ []

abbrev pub leaving_roots : Leaving → List ℕ
leaving_roots (Loud exit) = exit_roots exit
leaving_roots Silent = []

-- what a block answered last
abbrev pub last_roots : Option Value → List ℕ
last_roots None = []
last_roots (Some value) = referred value

-- those of a frame, with its locals and operands
abbrev pub frame_roots : Frame → List ℕ
frame_roots (Running leaving activation locals rest stack) =
    leaving_roots leaving ++ (activation_roots activation ++ (all_referred locals ++ all_referred stack))
frame_roots (Looping method state site) =
    referred state.receiver ++ (referred state.first ++ (referred state.second ++ last_roots state.last))

abbrev pub frames_roots : List Frame → List ℕ
frames_roots [] = []
frames_roots (frame ∷ frames) = frame_roots frame ++ frames_roots frames

-- those of what waits
abbrev pub pending_roots : Pending → List ℕ
pending_roots (Sending receiver sel arguments site) = referred receiver ++ all_referred arguments
pending_roots (Performing receiver sel array site) = referred receiver ++ array ∷ []
pending_roots (Evaluating block arguments site) = referred block ++ all_referred arguments

-- while the first opening send is answered, those of the second: Platform, and the array of the arguments
abbrev pub phase_roots : Phase → List ℕ
phase_roots Start = []
phase_roots (First arguments) = 1 ∷ arguments ∷ []
phase_roots Second = []
phase_roots Hosted = []

-- that of the value with which a run has ended
abbrev pub ending_roots : Ending → List ℕ
ending_roots (Done value) = referred value
ending_roots (Error error) = []
ending_roots (Limit limit) = []

-- all cells that a state names
abbrev pub roots_of : State → List ℕ
roots_of (Unbegun arguments progress) = []
roots_of (Going phase frames progress) = phase_roots phase ++ frames_roots frames
roots_of (Pends phase pending frames progress) = phase_roots phase ++ (pending_roots pending ++ frames_roots frames)
roots_of (Ended ending phase progress) = ending_roots ending
roots_of (Stuck progress) = []

-- ---- what is in reach

-- A cell is reached there, or was none of the cells there: it was made later.
abbrev pub InReach : Heap → List ℕ → ℕ → Type 0
InReach heap roots number = IsSome (find_cell heap number) → IsInReach heap roots number

-- no facet of that kind is reached
abbrev pub LacksFacet : FacetKind → Heap → List ℕ → Type 0
LacksFacet kind heap roots = (number : ℕ) → IsInReach heap roots number → find_cell heap number ≡ Some (FacetCell kind) → ⊥

-- ---- the law

-- A run that stood at one state has come to a later one. It changed no cell that was not reached from where it stood; it printed
-- nothing where no Console was reached, and changed no board where no Board was; and what is reached now, from where it stood and
-- from where it stands, was reached then or was made since, and holds such cells alone.
pub record StaysInReach (before after : State) : Type 0 where
  pub untouched : (number : ℕ) (cell : Cell) → (IsInReach (world_of before).cells (roots_of before) number → ⊥)
      → find_cell (world_of before).cells number ≡ Some cell → find_cell (world_of after).cells number ≡ Some cell
  pub silent : LacksFacet Console (world_of before).cells (roots_of before) → (world_of after).output ≡ (world_of before).output
  pub board : LacksFacet Board (world_of before).cells (roots_of before) → (progress_of after).board ≡ (progress_of before).board
  pub reached : (number : ℕ) → IsInReach (world_of after).cells (roots_of before ++ roots_of after) number
      → InReach (world_of before).cells (roots_of before) number
  pub holds : (number other : ℕ) (cell : Cell) → InReach (world_of before).cells (roots_of before) number
      → find_cell (world_of after).cells number ≡ Some cell → Contains (held (world_of after).cells cell) other
      → InReach (world_of before).cells (roots_of before) other

-- So do moves from a valid state that goes on.
abbrev pub MovesStayInReach : CodeProgram → Grants → Type 0
MovesStayInReach code grants =
    (count : ℕ) (state : State) → Valid code grants state → is_still state ≡ false → StaysInReach state (moves code count state)

-- So do turns.
abbrev pub TurnsStayInReach : CodeProgram → Grants → Type 0
TurnsStayInReach code grants =
    (steps : ℕ) (before after : State) → Valid code grants before → is_still before ≡ false → Turns code steps before after
    → StaysInReach before after

-- So does the send of a host from an idle state, in any number of moves: its roots are its receiver and its arguments.
abbrev pub SendsStayInReach : CodeProgram → Grants → Type 0
SendsStayInReach code grants =
    (receiver : Value) (sel : Sel) (arguments : List Value) (count : ℕ) (idle : State) → Valid code grants idle
    → MayBegin code receiver sel arguments idle
    → StaysInReach (begun receiver sel arguments idle) (moves code count (begun receiver sel arguments idle))
