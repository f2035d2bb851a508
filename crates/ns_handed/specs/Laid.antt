-- The texts that a host hands over as cells of a program, and what these cost.
use Rattle.std.specs.Prelude.{ℕ, ◌+◌, List, [], ◌∷◌, ◌++◌, take, drop}
use Rattle.ns_world.specs.declared.value.Value.{Value}
use Rattle.ns_world.specs.declared.value.Value.TheVariants as value
use Rattle.ns_world.specs.Cell.{text_words}
use Rattle.ns_frozen.specs.declared.cell.CellData.{CellData}
use Rattle.ns_frozen.specs.declared.cell.CellData.TheVariants as cell
use Rattle.ns_handed.specs.declared.value.Hand.{Hand}
use Rattle.ns_handed.specs.declared.value.Hand.TheVariants as hand

-- what one costs in cells: a text as any String of the program, and any other nothing
abbrev pub cost_of : Hand → ℕ
cost_of (hand.Given v) = 0
cost_of (hand.Text size) = 1 + text_words size
cost_of hand.Nothing = 0

-- and all together
abbrev pub cost_of_all : List Hand → ℕ
cost_of_all [] = 0
cost_of_all (hand ∷ hands) = cost_of hand + cost_of_all hands

-- the value of one, where the next cell has that number
abbrev pub value_from : ℕ → Hand → Value
value_from next (hand.Given v) = v
value_from next (hand.Text size) = value.Ref next
value_from next hand.Nothing = value.Nil

-- and of all, where each text is the next cell
abbrev pub values_from : ℕ → List Hand → List Value
values_from next [] = []
values_from next (hand ∷ hands) = value_from next hand ∷ values_from (next + cost_of hand) hands

-- the cell of one, whose bytes are the first of these; only a text has one
abbrev pub cell_from : List ℕ → Hand → List CellData
cell_from bytes (hand.Given v) = []
cell_from bytes (hand.Text size) = cell.Text (take size bytes) ∷ []
cell_from bytes hand.Nothing = []

-- the bytes behind it
abbrev pub bytes_behind : List ℕ → Hand → List ℕ
bytes_behind bytes (hand.Given v) = bytes
bytes_behind bytes (hand.Text size) = drop size bytes
bytes_behind bytes hand.Nothing = bytes

-- and of all, whose bytes lie one behind the other
abbrev pub cells_from : List ℕ → List Hand → List CellData
cells_from bytes [] = []
cells_from bytes (hand ∷ hands) = cell_from bytes hand ++ cells_from (bytes_behind bytes hand) hands

-- the text of one, whose bytes are the first of these, and of all
abbrev pub text_from : List ℕ → Hand → List (List ℕ)
text_from bytes (hand.Given v) = []
text_from bytes (hand.Text size) = take size bytes ∷ []
text_from bytes hand.Nothing = []

abbrev pub texts_from : List ℕ → List Hand → List (List ℕ)
texts_from bytes [] = []
texts_from bytes (hand ∷ hands) = text_from bytes hand ++ texts_from (bytes_behind bytes hand) hands
