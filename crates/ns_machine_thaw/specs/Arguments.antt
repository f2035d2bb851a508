-- The array of the arguments among cells as plain data.
use Rattle.std.specs.Prelude.{ℕ, ◌+◌, List, ◌∷◌, length, Option, Some, None}
use Rattle.ns_world.specs.Cell.{text_words}
use Rattle.ns_frozen.specs.declared.cell.CellData.{CellData}
use Rattle.ns_frozen.specs.declared.cell.CellData.TheVariants.{Text, Array}

-- the number of the array behind texts, of cells that begin at that number
abbrev pub data_behind : ℕ → List CellData → Option ℕ
data_behind number (Text bytes ∷ cells) = data_behind (number + (1 + text_words (length bytes))) cells
data_behind number (Array items ∷ cells) = Some number
data_behind number cells = None

-- how many cells the texts at the beginning take
abbrev pub texts_size : List CellData → ℕ
texts_size (Text bytes ∷ cells) = (1 + text_words (length bytes)) + texts_size cells
texts_size cells = 0
