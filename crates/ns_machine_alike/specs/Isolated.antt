-- Isolation: a send of a host comes to the same in each world that is alike from its receiver and its arguments on.
use Rattle.std.specs.Prelude.{◌≡◌, ◌≢◌, ℕ, ◌+◌, ◌<◌, ◌≤◌, List, [], ◌∷◌, ◌++◌, Option, Some, None, Contains, IsSome, IsTrue}
use Rattle.std.specs.List.{AllPairs}
use Rattle.ns_base.specs.declared.selector.Sel.{Sel}
use Rattle.ns_code.specs.declared.program.CodeProgram.{CodeProgram}
use Rattle.ns_facets.specs.declared.row.Grants.{Grants}
use Rattle.ns_world.specs.declared.value.Value.{Value}
use Rattle.ns_world.specs.declared.cell.FacetKind.TheVariants.{Board}
use Rattle.ns_world.specs.declared.ending.Ending.{Ending}
use Rattle.ns_world.specs.declared.ending.Ending.TheVariants.{Done, Error, Limit}
use Rattle.ns_world.specs.Cell.{FacetCell}
use Rattle.ns_world.specs.Heap.{Heap, heap_size, find_cell, no_class}
use Rattle.ns_world.specs.Reach.{IsInReach, all_referred}
use Rattle.ns_world.specs.World.{World}
use Rattle.ns_world.specs.Alike.{Renaming, AlikeValue, Alike}
use Rattle.ns_machine_alike.specs.Renamed.{renamed_on}
use Rattle.ns_moves.specs.State.{State, Unbegun, Going, Pends, Ended, Stuck, is_idle, progress_of, world_of, ending_of}
use Rattle.ns_moves.specs.Move.{moves}
use Rattle.ns_moves.specs.Turn.{is_still}
use Rattle.ns_moves.specs.Starts.{begun}
use Rattle.ns_moves.specs.Valid.{Valid}
use Rattle.ns_moves.specs.Beginning.{MayBegin}

-- ---- the renaming

-- The cells that are paired in two sends from alike worlds, from the start on: what the renaming pairs in the two reaches, the number of no class, and
-- each cell that the first send makes with the one that the second makes, as far behind the cells that were there.
pub data SendPair (pairs : Renaming) (one two : World) (firsts seconds : List ℕ) (n m : ℕ) : Type 0 where
  Earlier : Contains pairs (n, m) → IsInReach one.cells firsts n → IsInReach two.cells seconds m → SendPair pairs one two firsts seconds n m
  Made : (k : ℕ) → n ≡ heap_size one.cells + k → m ≡ heap_size two.cells + k → n < one.limits.cells → SendPair pairs one two firsts seconds n m
  NoClass : n ≡ no_class → m ≡ no_class → SendPair pairs one two firsts seconds n m

-- A renaming goes on: it pairs what the earlier one pairs in the two reaches, and each cell that was made since in the first world with the one as far
-- behind the cells that were there in the second. No number comes twice on one side.
pub record RenamesOn (pairs after : Renaming) (one two : World) (firsts seconds : List ℕ) (now : Heap) : Type 0 where
  pub once_first : AllPairs (λ p q. p.0 ≢ q.0) after
  pub once_second : AllPairs (λ p q. p.1 ≢ q.1) after
  pub earlier : (n m : ℕ) → Contains pairs (n, m) → IsInReach one.cells firsts n → IsInReach two.cells seconds m → Contains after (n, m)
  pub made : (k : ℕ) → IsSome (find_cell now (heap_size one.cells + k)) → Contains after (heap_size one.cells + k, heap_size two.cells + k)

-- ---- what is alike

-- Where a Board is reached, two runs have the same board.
abbrev pub BoardsAlike : List Value → State → State → Type 0
BoardsAlike firsts one two =
    (number : ℕ) → IsInReach (world_of one).cells (all_referred firsts) number → find_cell (world_of one).cells number ≡ Some (FacetCell Board)
    → (progress_of one).board ≡ (progress_of two).board

-- Two states are alike from these roots on: their worlds are, and so are their boards as far as they are in reach.
abbrev pub StatesAlike : Renaming → List Value → List Value → State → State → Type 0
StatesAlike pairs firsts seconds one two = Alike pairs (world_of one) (world_of two) firsts seconds × BoardsAlike firsts one two

-- Two endings are equal after renaming.
abbrev pub EndingAlike : Renaming → Ending → Ending → Type 0
EndingAlike pairs (Done value) (Done other) = AlikeValue pairs value other
EndingAlike pairs (Error error) (Error error') = error ≡ error'
EndingAlike pairs (Limit limit) (Limit limit') = limit ≡ limit'
EndingAlike pairs ending other = ⊥

-- Two runs go on both, or have equal endings after renaming.
abbrev pub MaybeEndingAlike : Renaming → Option Ending → Option Ending → Type 0
MaybeEndingAlike pairs None None = Unit {0}
MaybeEndingAlike pairs None (Some ending) = ⊥
MaybeEndingAlike pairs (Some ending) None = ⊥
MaybeEndingAlike pairs (Some ending) (Some other) = EndingAlike pairs ending other

-- the value with which a run has ended, if it has
abbrev pub ended_with : Ending → List Value
ended_with (Done value) = value ∷ []
ended_with (Error error) = []
ended_with (Limit limit) = []

abbrev pub done_values : State → List Value
done_values (Unbegun arguments progress) = []
done_values (Going phase frames progress) = []
done_values (Pends phase pending frames progress) = []
done_values (Ended ending phase progress) = ended_with ending
done_values (Stuck progress) = []

-- The same bytes were printed since.
pub record PrintsAlike (first second one two : World) : Type 0 where
  pub bytes : List ℕ
  pub one_is : one.output ≡ first.output ++ bytes
  pub two_is : two.output ≡ second.output ++ bytes

-- As many steps were charged since, cells of as many words were made, and as many frames are live.
pub record UsesAlike (first second one two : World) : Type 0 where
  pub steps : one.steps + second.steps ≡ two.steps + first.steps
  pub cells : heap_size one.cells + heap_size second.cells ≡ heap_size two.cells + heap_size first.cells
  pub depth : one.depth ≡ two.depth

-- ---- the law

-- Two runs that began where they were idle, with roots of their own, have come to states that are alike: they print the same bytes, use as much, and go on both or
-- have the equal ending; and from the roots and the value of the ending on their worlds and boards are alike, by each renaming that goes on.
pub record RunsAlike (pairs : Renaming) (firsts seconds : List Value) (first second one two : State) : Type 0 where
  pub prints : PrintsAlike (world_of first) (world_of second) (world_of one) (world_of two)
  pub uses : UsesAlike (world_of first) (world_of second) (world_of one) (world_of two)
  pub grows : heap_size (world_of first).cells ≤ heap_size (world_of one).cells
  pub still : is_still one ≡ is_still two
  pub ends : (after : Renaming)
      → RenamesOn pairs after (world_of first) (world_of second) (all_referred firsts) (all_referred seconds) (world_of one).cells
      → MaybeEndingAlike after (ending_of one) (ending_of two)
  pub alike : (after : Renaming)
      → RenamesOn pairs after (world_of first) (world_of second) (all_referred firsts) (all_referred seconds) (world_of one).cells
      → StatesAlike after (firsts ++ done_values one) (seconds ++ done_values two) one two

-- A host sends the same in two idle states of one code that are alike from the receivers and the arguments on: after equally many moves the runs are alike.
abbrev pub SendsAreAlike : CodeProgram → Grants → Grants → Type 0
SendsAreAlike code grants grants' =
    (pairs : Renaming) (receiver other : Value) (sel : Sel) (arguments others : List Value) (count : ℕ) (first second : State)
    → Valid code grants first → Valid code grants' second
    → MayBegin code receiver sel arguments first → IsTrue (is_idle second)
    → StatesAlike pairs (receiver ∷ arguments) (other ∷ others) first second
    → RunsAlike pairs (receiver ∷ arguments) (other ∷ others) first second
    (moves code count (begun receiver sel arguments first)) (moves code count (begun other sel others second))

-- So many moves of a send of the host lead to that state.
pub record SendsTo (code : CodeProgram) (receiver : Value) (sel : Sel) (arguments : List Value) (idle after : State) : Type 0 where
  pub count : ℕ
  pub is : moves code count (begun receiver sel arguments idle) ≡ after

-- What a send led to, it leads to in each idle state of the same code that is alike.
abbrev pub ComesToTheSame : CodeProgram → Grants → Value → Sel → List Value → State → State → Type 0
ComesToTheSame code grants receiver sel arguments first one =
    (pairs : Renaming) (other : Value) (others : List Value) (second : State)
    → Valid code grants second → IsTrue (is_idle second)
    → StatesAlike pairs (receiver ∷ arguments) (other ∷ others) first second
    → (two : State) × SendsTo code other sel others second two × RunsAlike pairs (receiver ∷ arguments) (other ∷ others) first second one two

-- So it is with every number of moves of a send from a valid idle state.
abbrev pub SendsComeToTheSame : CodeProgram → Grants → Grants → Type 0
SendsComeToTheSame code grants grants' =
    (receiver : Value) (sel : Sel) (arguments : List Value) (count : ℕ) (first : State) → Valid code grants first
    → MayBegin code receiver sel arguments first
    → ComesToTheSame code grants' receiver sel arguments first (moves code count (begun receiver sel arguments first))

-- Two sends from states that are alike have gone on until they move no more: the runs are alike.
abbrev pub EndedSendsAreAlike : CodeProgram → Grants → Grants → Type 0
EndedSendsAreAlike code grants grants' =
    (pairs : Renaming) (receiver other : Value) (sel : Sel) (arguments others : List Value) (first second one two : State)
    → Valid code grants first → Valid code grants' second
    → MayBegin code receiver sel arguments first → IsTrue (is_idle second)
    → StatesAlike pairs (receiver ∷ arguments) (other ∷ others) first second
    → SendsTo code receiver sel arguments first one → SendsTo code other sel others second two
    → IsTrue (is_still one) → IsTrue (is_still two)
    → RunsAlike pairs (receiver ∷ arguments) (other ∷ others) first second one two

-- There is a renaming that goes on: with the pairs of the cells that were there, and of those that were made since.
abbrev pub RenamingsGoOn : Type 0
RenamingsGoOn =
    (pairs : Renaming) (one two : World) (firsts seconds : List Value) (now : Heap)
    → Alike pairs one two firsts seconds → heap_size one.cells ≤ heap_size now
    → RenamesOn pairs (renamed_on pairs one two now) one two (all_referred firsts) (all_referred seconds) now
