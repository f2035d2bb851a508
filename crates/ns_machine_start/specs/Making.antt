-- Cells that are made one after another.
use Rattle.std.specs.Prelude.{◌≡◌, ℕ, ◌+◌, List, ◌∷◌, ◌++◌, map, Result, Ok, Err, OnOk}
use Rattle.ns_world.specs.declared.value.Value.{Value}
use Rattle.ns_world.specs.declared.value.Value.TheVariants.{Nil, Ref}
use Rattle.ns_world.specs.declared.cell.CellLimit.{CellLimit}
use Rattle.ns_world.specs.declared.ending.LimitKind.TheVariants.{Cells}
use Rattle.ns_world.specs.declared.ending.Ending.TheVariants.{Limit}
use Rattle.ns_world.specs.Cell.{Cell, TextCell}
use Rattle.ns_world.specs.Heap.{heap_size}
use Rattle.ns_world.specs.World.{WorldView}
use Rattle.ns_moves.specs.Control.{Progress, in_world, After, Gives, Halts}
use Rattle.ns_moves.specs.Start.{all_made, numbers_from, size_of_cells}
use Rattle.ns_moves.specs.Room.{SameRest}

-- how a start goes on with other cells: it makes them, or has ended where one before them didn't fit
abbrev pub going_on : Result (Unit {0}) CellLimit → List Cell → Progress → After
going_on (Ok done) cells progress = all_made cells Nil progress
going_on (Err limit) cells progress = Halts (Limit Cells) progress

-- Cells were made in their order, up to the first that doesn't fit: whatever cells follow, the start goes on with them.
pub record CellsAreMade (cells : List Cell) (old : WorldView) (result : Result (Unit {0}) CellLimit) (new : WorldView) : Type 0 where
  pub goes_on : (last : Value) (next : Cell) (more : List Cell) (progress : Progress)
      → all_made (cells ++ next ∷ more) last (in_world progress old.world) ≡ going_on result (next ∷ more) (in_world progress new.world)
  pub size : OnOk result (heap_size new.world.cells ≡ heap_size old.world.cells + size_of_cells cells)
  pub rest : SameRest old new

-- that a cell was made, without its number
abbrev pub unnumbered : Result ℕ CellLimit → Result (Unit {0}) CellLimit
unnumbered (Ok number) = Ok tt
unnumbered (Err limit) = Err limit

-- how a start ends: with its last cell, or where one didn't fit
abbrev pub start_shown : Result ℕ CellLimit → Progress → After
start_shown (Ok number) progress = Gives (Ref number) progress
start_shown (Err limit) progress = Halts (Limit Cells) progress

-- values that refer to the cells of these texts, which are made from a number on
abbrev pub referring : ℕ → List (List ℕ) → List Value
referring number texts = map Ref (numbers_from number (map TextCell texts))
