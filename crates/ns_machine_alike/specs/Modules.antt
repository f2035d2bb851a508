-- Isolation of a module that is handed plain values alone.
use Rattle.std.specs.Prelude.{◌≡◌, ◌≢◌, ℕ, ◌-◌, List, [], ◌∷◌, length, Some, IsTrue}
use Rattle.ns_base.specs.declared.selector.Sel.{Sel}
use Rattle.ns_code.specs.declared.program.CodeProgram.{CodeProgram}
use Rattle.ns_facets.specs.declared.row.Grants.{Grants}
use Rattle.ns_world.specs.declared.value.Value.{Value}
use Rattle.ns_world.specs.declared.value.Value.TheVariants.{Ref}
use Rattle.ns_world.specs.Cell.{Cell}
use Rattle.ns_world.specs.Heap.{heap_size, find_cell}
use Rattle.ns_world.specs.Seek.{first_such, is_top}
use Rattle.ns_world.specs.World.{World}
use Rattle.ns_moves.specs.State.{State, is_idle, progress_of, world_of}
use Rattle.ns_moves.specs.Move.{moves}
use Rattle.ns_moves.specs.Starts.{begun}
use Rattle.ns_moves.specs.Valid.{Valid}
use Rattle.ns_moves.specs.Beginning.{MayBegin}
use Rattle.ns_machine_alike.specs.Isolated.{StatesAlike, RunsAlike}
use Rattle.ns_machine_alike.specs.Premises.{ArePlain}

-- Manifest holds the class of a top-level declaration, under that number.
abbrev pub HoldsModule : State → ℕ → ℕ → Type 0
HoldsModule state decl number = first_such (is_top decl) (world_of state).cells ≡ Some number

-- ---- what a module does depends on nothing else

-- Of each limit equally much is left.
pub record BudgetsAlike (one two : World) : Type 0 where
  pub steps : one.limits.steps - one.steps ≡ two.limits.steps - two.steps
  pub room : one.limits.cells - heap_size one.cells ≡ two.limits.cells - heap_size two.cells
  pub depth : one.limits.depth - one.depth ≡ two.limits.depth - two.depth
  pub out : one.limits.out - length one.output ≡ two.limits.out - length two.output

-- Idle states with equal budgets left are alike from the class of a module on, whatever else is there: it reaches nothing but itself.
abbrev pub ModulesAreAlike : CodeProgram → Grants → Grants → Type 0
ModulesAreAlike code grants grants' =
    (decl number other : ℕ) (first second : State)
    → Valid code grants first → Valid code grants' second → IsTrue (is_idle first) → IsTrue (is_idle second)
    → HoldsModule first decl number → HoldsModule second decl other → BudgetsAlike (world_of first) (world_of second)
    → StatesAlike ((number, other) ∷ []) (Ref number ∷ []) (Ref other ∷ []) first second

-- So what a module is sent with plain values comes to the same in all idle states of one code with equal budgets left, whatever else
-- the worlds of the program hold.
abbrev pub ModulesComeToTheSame : CodeProgram → Grants → Grants → Type 0
ModulesComeToTheSame code grants grants' =
    (decl number other : ℕ) (sel : Sel) (arguments : List Value) (count : ℕ) (first second : State)
    → Valid code grants first → Valid code grants' second → MayBegin code (Ref number) sel arguments first → IsTrue (is_idle second)
    → HoldsModule first decl number → HoldsModule second decl other → BudgetsAlike (world_of first) (world_of second) → ArePlain arguments
    → RunsAlike ((number, other) ∷ []) (Ref number ∷ arguments) (Ref other ∷ arguments) first second
    (moves code count (begun (Ref number) sel arguments first)) (moves code count (begun (Ref other) sel arguments second))

-- ---- it touches nothing else

-- All cells but one stand, nothing was printed, and the board is the same.
pub record TouchesOnly (number : ℕ) (before after : State) : Type 0 where
  pub cells : (other : ℕ) (cell : Cell) → other ≢ number → find_cell (world_of before).cells other ≡ Some cell
      → find_cell (world_of after).cells other ≡ Some cell
  pub output : (world_of after).output ≡ (world_of before).output
  pub board : (progress_of after).board ≡ (progress_of before).board

-- And it touches no cell that was there but its class, prints nothing and changes no board, whatever the run was granted.
abbrev pub ModulesTouchNothing : CodeProgram → Grants → Type 0
ModulesTouchNothing code grants =
    (decl number : ℕ) (sel : Sel) (arguments : List Value) (count : ℕ) (idle : State)
    → Valid code grants idle → MayBegin code (Ref number) sel arguments idle → HoldsModule idle decl number → ArePlain arguments
    → TouchesOnly number idle (moves code count (begun (Ref number) sel arguments idle))
