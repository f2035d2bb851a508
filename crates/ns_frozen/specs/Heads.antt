-- Cells in little memory: what each head stands for, over the pools that hold what doesn't fit into it.
use Rattle.std.specs.Prelude.{◌≡◌, ℕ, ◌+◌, ◌<◌, ◌≤◌, List, [], ◌∷◌, ◌++◌, length, map, take, drop}
use Rattle.std.specs.List.{slice_index_or}
use Rattle.ns_world.specs.declared.value.Value.{Value}
use Rattle.ns_world.specs.declared.value.Value.TheVariants.{Nil, Ref}
use Rattle.ns_frozen.specs.declared.cell.CellData.{CellData}
use Rattle.ns_frozen.specs.declared.cell.CellData.TheVariants as cell
use Rattle.ns_frozen.specs.declared.pools.Head.{Head}
use Rattle.ns_frozen.specs.declared.pools.Head.TheVariants as head
use Rattle.ns_frozen.specs.declared.pools.ClassParts.{ClassParts}
use Rattle.ns_frozen.specs.declared.pools.BlockData.{BlockData}
use Rattle.ns_frozen.specs.declared.pools.NewData.{NewData}
use Rattle.ns_frozen.specs.declared.pools.NewData.TheVariants as new
use Rattle.ns_frozen.specs.declared.pools.Pools.{Pools}

-- Nothing is in the pools.
pub record AreEmpty (pools : Pools) : Type 0 where
  pub values : pools.values.items ≡ []
  pub bytes : pools.bytes.items ≡ []
  pub classes : pools.classes.items ≡ []
  pub blocks : pools.blocks.items ≡ []
  pub arguments : pools.arguments.items ≡ []

-- so many items of a pool from a place on
abbrev pub run : {A : Type 0} → ℕ → ℕ → List A → List A
run at count pool = take count (drop at pool)

-- the class that a value names
abbrev pub class_named : Value → ℕ
class_named (Ref class) = class
class_named other = 0

-- a class of a declaration with these values
abbrev pub class_of : ℕ → ClassParts → CellData
class_of decl parts = cell.Class decl parts.encl parts.holder parts.over

-- the class of a declaration whose values stand at a place
abbrev pub class_at : ℕ → ℕ → List ClassParts → CellData
class_at decl at classes = slice_index_or (map (class_of decl) classes) at (cell.Array [])

-- a block of these parts
abbrev pub block_of : BlockData → CellData
block_of parts = cell.Block parts.body parts.env parts.receiver parts.holder parts.home

-- the block at a place
abbrev pub block_at : ℕ → List BlockData → CellData
block_at at blocks = slice_index_or (map block_of blocks) at (cell.Array [])

-- the cell of a head, over the pools
abbrev pub shown : Pools → Head → CellData
shown pools (head.Object at count) = cell.Object (class_named (slice_index_or pools.values.items (at + count) Nil)) (run at count pools.values.items)
shown pools (head.Class decl at) = class_at decl at pools.classes.items
shown pools (head.Block at) = block_at at pools.blocks.items
shown pools (head.Environment at count) = cell.Environment (slice_index_or pools.values.items (at + count) Nil) (run at count pools.values.items)
shown pools (head.Array at count) = cell.Array (run at count pools.values.items)
shown pools (head.Text at count) = cell.Text (run at count pools.bytes.items)
shown pools (head.Facet kind) = cell.Facet kind
shown pools (head.Mirror mirrored) = cell.Mirror mirrored
shown pools (head.Message sel at) = cell.Message sel (slice_index_or pools.arguments.items at Nil)

-- What a head names is in the pools.
abbrev pub IsThere : Pools → Head → Type 0
IsThere pools (head.Object at count) = at + count < length pools.values.items
IsThere pools (head.Class decl at) = at < length pools.classes.items
IsThere pools (head.Block at) = at < length pools.blocks.items
IsThere pools (head.Environment at count) = at + count < length pools.values.items
IsThere pools (head.Array at count) = at + count ≤ length pools.values.items
IsThere pools (head.Text at count) = at + count ≤ length pools.bytes.items
IsThere pools (head.Facet kind) = Unit {0}
IsThere pools (head.Mirror mirrored) = Unit {0}
IsThere pools (head.Message sel at) = at < length pools.arguments.items

-- A head stands for that cell.
pub record IsHeadOf (pools : Pools) (cell : CellData) (head : Head) : Type 0 where
  pub there : IsThere pools head
  pub is : shown pools head ≡ cell

-- What a head stood for over the old pools it stands for over the new ones.
pub record ShowsSame (old new : Pools) : Type 0 where
  pub there : (head : Head) → IsThere old head → IsThere new head
  pub is : (head : Head) → IsThere old head → shown new head ≡ shown old head

-- the cell that is to be put, with these words
abbrev pub data_of : NewData → List Value → CellData
data_of (new.Object class) words = cell.Object class words
data_of (new.Class decl encl holder over) words = cell.Class decl encl holder over
data_of (new.Block parts) words = block_of parts
data_of (new.Environment parent) words = cell.Environment parent words
data_of new.Array words = cell.Array words
data_of (new.Text bytes) words = cell.Text bytes.now
data_of (new.Facet kind) words = cell.Facet kind
data_of (new.Mirror mirrored) words = cell.Mirror mirrored
data_of (new.Message sel args) words = cell.Message sel args

-- cells, and the words that are put for the next one
pub record MadeCells : Type 0 where
  pub cells : List CellData
  pub words : List Value

-- the same with one more word
abbrev pub with_word : Value → MadeCells → MadeCells
with_word word made = record made { words = made.words ++ word ∷ [] }

-- the same with one more cell, and no words for the next
abbrev pub with_cell : CellData → MadeCells → MadeCells
with_cell cell made = record { cells = made.cells ++ cell ∷ []; words = [] }
