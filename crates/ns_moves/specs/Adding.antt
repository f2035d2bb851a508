-- What actions add to the cells.
use Rattle.std.specs.Prelude.{◌≡◌, ℕ, List, ◌++◌, map, Bool, false, ◌==◌, ◌&&◌, IsTrue}
use Rattle.std.specs.List.{list_all}
use Rattle.ns_code.specs.declared.program.CodeProgram.{CodeProgram}
use Rattle.ns_world.specs.declared.cell.NewCell.{NewCell}
use Rattle.ns_world.specs.declared.cell.NewCell.TheVariants as new
use Rattle.ns_world.specs.Cell.{shape_of}
use Rattle.ns_world.specs.Heap.{Heap}
use Rattle.ns_kdata.specs.Leading.{is_common}
use Rattle.ns_moves.specs.Control.{Progress}
use Rattle.ns_moves.specs.Actions.{Action, MakesBlock, progress_after}

-- The cells that were there have kept their kinds, their sizes and their fixed parts, and such cells are new.
pub record Adds (may : NewCell → Bool) (old new : Heap) : Type 0 where
  pub added : List NewCell
  pub shapes : map shape_of new ≡ added ++ map shape_of old
  pub each : IsTrue (list_all may added)

-- whether a cell is a block of that body with that home
abbrev pub is_block_of : ℕ → ℕ → NewCell → Bool
is_block_of body home (new.Block other env home' receiver holder) = (other == body) && (home' == home)
is_block_of body home cell = false

-- which cells an action may add: a block has the home of the activation that makes it, and there is no facet
abbrev pub may_add : Action → NewCell → Bool
may_add (MakesBlock activation body) = is_block_of body activation.home
may_add action = is_common

-- An action adds no others.
abbrev pub AddsOnly : CodeProgram → Action → Progress → Type 0
AddsOnly code action progress = Adds (may_add action) progress.world.cells (progress_after code action progress).world.cells
