-- The numbers of cells, and what stands under a number.
use Rattle.std.specs.Prelude.{◌≡◌, ◌≢◌, ℕ, ◌+◌, ◌<◌, ◌≤◌, nat_lt, List, [], ◌∷◌, length, get_or, Option, Some, None, ◌==◌, if◌then◌else◌}
use Rattle.ns_world.specs.Cell.{text_words}
use Rattle.ns_frozen.specs.declared.cell.CellData.{CellData}
use Rattle.ns_frozen.specs.declared.cell.CellData.TheVariants as cell

-- what a cell costs
abbrev pub data_size : CellData → ℕ
data_size (cell.Object class words) = 1 + length words
data_size (cell.Class decl encl holder over) = 4
data_size (cell.Block body env receiver holder home) = 3
data_size (cell.Environment parent locals) = 1 + length locals
data_size (cell.Array items) = 1 + length items
data_size (cell.Text bytes) = 1 + text_words (length bytes)
data_size (cell.Facet kind) = 1
data_size (cell.Mirror mirrored) = 2
data_size (cell.Message sel args) = 3

-- how many numbers a reference can name
abbrev pub number_end : ℕ
number_end = 4294967296

-- the numbers of cells, of which the first has that one, as far as a reference can name them
abbrev pub numbers_from : ℕ → List CellData → List ℕ
numbers_from number [] = []
numbers_from number (cell ∷ cells) = if nat_lt number number_end then number ∷ numbers_from (number + data_size cell) cells else []

-- the cell of a number, of cells of which the first has that one
abbrev pub data_from : ℕ → List CellData → ℕ → Option CellData
data_from number [] wanted = None
data_from number (cell ∷ cells) wanted = if wanted == number then Some cell else data_from (number + data_size cell) cells wanted

-- Numbers rise.
abbrev pub IsRising : List ℕ → Type 0
IsRising numbers = (i j : ℕ) → i ≤ j → j < length numbers → get_or numbers i 0 ≤ get_or numbers j 0

-- A number stands at a place of some, or at none.
abbrev pub IsPlaceOf : List ℕ → ℕ → Option ℕ → Type 0
IsPlaceOf numbers number (Some place) = (place < length numbers) × (get_or numbers place 0 ≡ number)
IsPlaceOf numbers number None = (place : ℕ) → place < length numbers → get_or numbers place 0 ≢ number
