-- The cells of a heap as plain data, from a number on.
use Rattle.std.specs.Prelude.{ℕ, nat_le, List, [], ◌∷◌, ◌++◌, if◌then◌else◌}
use Rattle.ns_world.specs.declared.value.Value.{Value}
use Rattle.ns_world.specs.declared.cell.NewCell.{NewCell}
use Rattle.ns_world.specs.declared.cell.NewCell.TheVariants as new
use Rattle.ns_world.specs.Heap.{Heap, heap_size, shape_at, words_at, bytes_at}
use Rattle.ns_frozen.specs.declared.cell.CellData.{CellData}
use Rattle.ns_frozen.specs.declared.cell.CellData.TheVariants as cell
use Rattle.ns_frozen.specs.Freezing.{cell_frozen}

-- the cells whose number is at least that, the oldest first
abbrev pub cells_from : Heap → ℕ → List CellData
cells_from [] number = []
cells_from (cell ∷ earlier) number = if nat_le number (heap_size earlier) then cells_from earlier number ++ cell_frozen cell ∷ [] else []

-- a cell by its shape, its words and its bytes
abbrev pub data_of : NewCell → List Value → List ℕ → CellData
data_of (new.Object class count) words bytes = cell.Object class words
data_of (new.Class decl base encl holder over) words bytes = cell.Class decl encl holder over
data_of (new.Block body env home receiver holder) words bytes = cell.Block body env receiver holder home
data_of (new.Environment parent count) words bytes = cell.Environment parent words
data_of (new.Array count) words bytes = cell.Array words
data_of (new.Text count) words bytes = cell.Text bytes
data_of (new.Facet kind) words bytes = cell.Facet kind
data_of (new.Mirror mirrored) words bytes = cell.Mirror mirrored
data_of (new.Message sel args) words bytes = cell.Message sel args

-- the cell of that number
abbrev pub data_at : Heap → ℕ → CellData
data_at heap number = data_of (shape_at heap number) (words_at heap number) (bytes_at heap number)
