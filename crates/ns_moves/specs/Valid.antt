-- Which states a run of sound code can reach, as far as single states tell: the invariant under which every move is
-- defined. It doesn't say that a run reaches the state.
use Rattle.std.specs.Prelude.{◌≡◌, ℕ, ◌+◌, ◌≤◌, nat_le, IsTrue, Bool, true, false, ◌&&◌, if◌then◌else◌}
use Rattle.std.specs.Prelude.{List, [], ◌∷◌, length, take, drop, reverse, Option, Some, None, All}
use Rattle.std.specs.List.{list_all}
use Rattle.ns_code.specs.declared.program.CodeProgram.{CodeProgram}
use Rattle.ns_world.specs.declared.value.Value.{Value}
use Rattle.ns_world.specs.declared.value.Value.TheVariants.{Ref}
use Rattle.ns_world.specs.declared.ending.Ending.{Ending}
use Rattle.ns_world.specs.declared.ending.Ending.TheVariants.{Done, Error, Limit}
use Rattle.ns_world.specs.declared.ending.LimitKind.TheVariants.{Cells}
use Rattle.ns_world.specs.Cell.{Cell, BlockCell, FacetCell, TextCell, ArrayCell, cell_size}
use Rattle.ns_world.specs.Heap.{Heap}
use Rattle.ns_world.specs.Lawful.{IsLiveValue}
use Rattle.ns_facets.specs.declared.row.Grants.{Grants}
use Rattle.ns_kdata.specs.Arguments.{items_of, is_array}
use Rattle.ns_moves.specs.Control.{Progress}
use Rattle.ns_moves.specs.Blocks.{is_block}
use Rattle.ns_moves.specs.Start.{standing_cells, size_of_cells}
use Rattle.ns_moves.specs.Lawful.{LawfulRun, FitsSelector}
use Rattle.ns_verify.specs.Verify.{IsSound}
use Rattle.ns_moves.specs.State.{Frame, Pending, Sending, Performing, Evaluating, Phase, Start, First, State, Unbegun, Going, Pends, Ended, Stuck}
use Rattle.ns_moves.specs.ValidFrames.{Nothing, awaited_for, has_block_home, homes_fall, FramesAreValid}
use Rattle.ns_moves.specs.Fitting.{FitsSite}

-- ---- the world

-- whether each block has a home as its body asks for
abbrev pub blocks_have_homes : CodeProgram → ℕ → Heap → Bool
blocks_have_homes code begun [] = true
blocks_have_homes code begun (BlockCell body env home receiver holder ∷ cells) =
    has_block_home code begun body home && blocks_have_homes code begun cells
blocks_have_homes code begun (cell ∷ cells) = blocks_have_homes code begun cells

-- whether a cell is no facet
abbrev pub is_no_facet : Cell → Bool
is_no_facet (FacetCell kind) = false
is_no_facet cell = true

-- The first cells are these, and no other is a facet. A heap has the newest first.
pub record BeginsWith (first : List Cell) (heap : Heap) : Type 0 where
  pub start : take (length first) (reverse heap) ≡ first
  pub others : IsTrue (list_all is_no_facet (drop (length first) (reverse heap)))

-- those of some cells that fit in so many, up to the first that doesn't
abbrev pub fitting : ℕ → ℕ → List Cell → List Cell
fitting room used [] = []
fitting room used (cell ∷ cells) = if nat_le (used + cell_size cell) room then cell ∷ fitting room (used + cell_size cell) cells else []

-- the number of the array behind texts, of cells that begin at that number
abbrev pub array_behind : ℕ → List Cell → Option ℕ
array_behind number (TextCell bytes ∷ cells) = array_behind (number + cell_size (TextCell bytes)) cells
array_behind number (ArrayCell items ∷ cells) = Some number
array_behind number cells = None

-- The texts of the arguments and their array follow the cells with which each run starts.
abbrev pub HasArgumentCells : CodeProgram → Grants → ℕ → Heap → Type 0
HasArgumentCells code grants arguments heap =
    array_behind (size_of_cells (standing_cells code grants)) (drop (length (standing_cells code grants)) (reverse heap)) ≡ Some arguments

-- while the first opening send is answered, the array for the second is there
abbrev pub HasArgumentsIn : CodeProgram → Grants → Phase → Heap → Type 0
HasArgumentsIn code grants (First arguments) heap = HasArgumentCells code grants arguments heap
HasArgumentsIn code grants phase heap = Unit {0}

-- The world of a run of sound code is lawful, its blocks have homes, and no more methods have begun than steps.
pub record WorldIsValid (code : CodeProgram) (first : List Cell) (progress : Progress) : Type 0 where
  pub sound : IsSound code
  pub lawful : LawfulRun code progress
  pub begins : BeginsWith first progress.world.cells
  pub homes : IsTrue (blocks_have_homes code progress.begun progress.world.cells)
  pub begun : progress.begun ≤ progress.world.steps

-- ---- what waits, and how a run ended

-- What waits can be done: values are live, and there are as many arguments as are asked for.
pub record PendingSend (code : CodeProgram) (heap : Heap) (receiver : Value) (arguments : List Value) : Type 0 where
  pub live : IsLiveValue heap code receiver
  pub few : length arguments ≤ 255

-- No frame stands below a send that opens a run or that a host made.
abbrev pub PendingIsValid : CodeProgram → Heap → Pending → List Frame → Type 0
PendingIsValid code heap (Sending receiver sel arguments site) frames =
    (frames ≡ []) × PendingSend code heap receiver arguments × FitsSelector heap code sel arguments × FitsSite code site
PendingIsValid code heap (Performing receiver sel array site) frames =
    IsLiveValue heap code receiver × IsTrue (is_array heap (Ref array)) × FitsSelector heap code sel (items_of heap (Ref array)) × FitsSite code site
PendingIsValid code heap (Evaluating block arguments site) frames =
    IsTrue (is_block heap block) × (length arguments ≤ 255) × All (IsLiveValue heap code) arguments × FitsSite code site

-- A value that a run ends with is live, after which no frame is left; an error names a class and a selector.
abbrev pub EndingIsValid : CodeProgram → Ending → Progress → Type 0
EndingIsValid code (Done value) progress = IsLiveValue progress.world.cells code value × (progress.world.depth ≡ 0)
EndingIsValid code (Error error) progress = FitsSite code (record { place = error.place; class = error.class; sel = error.sel })
EndingIsValid code (Limit limit) progress = Unit {0}

-- A start that doesn't fit has the cells that did; the first opening send doesn't end a run with a value.
abbrev pub EndIsValid : CodeProgram → Grants → Ending → Phase → Progress → Type 0
EndIsValid code grants (Limit Cells) Start progress =
    WorldIsValid code (fitting progress.world.limits.cells 0 (standing_cells code grants)) progress
EndIsValid code grants ending Start progress = ⊥
EndIsValid code grants (Done value) (First arguments) progress = ⊥
EndIsValid code grants ending phase progress = WorldIsValid code (standing_cells code grants) progress × EndingIsValid code ending progress

-- ---- states

-- whether something was begun
abbrev pub has_begun : Phase → Bool
has_begun Start = false
has_begun phase = true

-- whether there is a frame
abbrev pub has_frame : List Frame → Bool
has_frame [] = false
has_frame (frame ∷ frames) = true

-- A run that goes on has as much depth as frames, and their homes rise from the lowest to the topmost.
pub record GoesOn (code : CodeProgram) (grants : Grants) (phase : Phase) (frames : List Frame) (progress : Progress) : Type 0 where
  pub world : WorldIsValid code (standing_cells code grants) progress
  pub some : IsTrue (has_begun phase)
  pub arguments : HasArgumentsIn code grants phase progress.world.cells
  pub depth : progress.world.depth ≡ length frames
  pub homes : IsTrue (homes_fall progress.begun frames)

-- the invariant, by where the run stands
abbrev pub Valid : CodeProgram → Grants → State → Type 0
Valid code grants (Unbegun arguments progress) =
    WorldIsValid code (standing_cells code grants) progress × HasArgumentCells code grants arguments progress.world.cells × (progress.world.depth ≡ 0)
Valid code grants (Going phase frames progress) =
    GoesOn code grants phase frames progress × IsTrue (has_frame frames) × FramesAreValid code progress Nothing frames
Valid code grants (Pends phase pending frames progress) =
    GoesOn code grants phase frames progress × PendingIsValid code progress.world.cells pending frames
    × FramesAreValid code progress (awaited_for pending) frames
Valid code grants (Ended ending phase progress) = EndIsValid code grants ending phase progress
Valid code grants (Stuck progress) = ⊥
