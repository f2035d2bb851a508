-- The cells that values refer to.
use Rattle.std.specs.Prelude.{ℕ, ◌+◌, ◌/◌, List, [], ◌∷◌, ◌++◌, length, replicate, slice_set}
use Rattle.ns_base.specs.declared.selector.Sel.{Sel}
use Rattle.ns_world.specs.declared.value.Value.{Value}
use Rattle.ns_world.specs.declared.value.Value.TheVariants.{Nil}
use Rattle.ns_world.specs.declared.cell.FacetKind.{FacetKind}
use Rattle.ns_world.specs.declared.cell.NewCell.{NewCell}
use Rattle.ns_world.specs.declared.cell.NewCell.TheVariants.{Object, Class, Block, Environment, Array, Text, Facet, Mirror, Message}

-- A cell with all that it holds. The base of a class is how many entries the classes above it have.
pub data Cell : Type 0 where
  ObjectCell : (class : ℕ) (entries : List Value) → Cell
  ClassCell : (decl base : ℕ) (encl holder over : Value) → Cell
  BlockCell : (body : ℕ) (env : Value) (home : ℕ) (receiver : Value) (holder : ℕ) → Cell
  EnvironmentCell : (parent : Value) (locals : List Value) → Cell
  ArrayCell : (items : List Value) → Cell
  TextCell : (bytes : List ℕ) → Cell
  FacetCell : (kind : FacetKind) → Cell
  MirrorCell : (mirrored : Value) → Cell
  MessageCell : (sel : Sel) (args : Value) → Cell

-- how many words so many bytes take
abbrev pub text_words : ℕ → ℕ
text_words bytes = (bytes + 7) / 8

-- what a cell costs
abbrev pub cell_size : Cell → ℕ
cell_size (ObjectCell class entries) = 1 + length entries
cell_size (ClassCell decl base encl holder over) = 4
cell_size (BlockCell body env home receiver holder) = 3
cell_size (EnvironmentCell parent locals) = 1 + length locals
cell_size (ArrayCell items) = 1 + length items
cell_size (TextCell bytes) = 1 + text_words (length bytes)
cell_size (FacetCell kind) = 1
cell_size (MirrorCell mirrored) = 2
cell_size (MessageCell sel args) = 3

-- the cell as it is made: its words are nil and its bytes 0
abbrev pub fresh : NewCell → Cell
fresh (Object class words) = ObjectCell class (replicate words Nil)
fresh (Class decl base encl holder over) = ClassCell decl base encl holder over
fresh (Block body env home receiver holder) = BlockCell body env home receiver holder
fresh (Environment parent locals) = EnvironmentCell parent (replicate locals Nil)
fresh (Array size) = ArrayCell (replicate size Nil)
fresh (Text bytes) = TextCell (replicate bytes 0)
fresh (Facet kind) = FacetCell kind
fresh (Mirror mirrored) = MirrorCell mirrored
fresh (Message sel args) = MessageCell sel args

-- an environment whose first locals hold values, and so many others nil
abbrev pub filled_environment : Value → List Value → ℕ → Cell
filled_environment parent first others = EnvironmentCell parent (first ++ replicate others Nil)

-- the kind, the sizes and the fixed parts with which a cell was made
abbrev pub shape_of : Cell → NewCell
shape_of (ObjectCell class entries) = Object class (length entries)
shape_of (ClassCell decl base encl holder over) = Class decl base encl holder over
shape_of (BlockCell body env home receiver holder) = Block body env home receiver holder
shape_of (EnvironmentCell parent locals) = Environment parent (length locals)
shape_of (ArrayCell items) = Array (length items)
shape_of (TextCell bytes) = Text (length bytes)
shape_of (FacetCell kind) = Facet kind
shape_of (MirrorCell mirrored) = Mirror mirrored
shape_of (MessageCell sel args) = Message sel args

-- the values behind a cell's head, in the order of their words
abbrev pub cell_words : Cell → List Value
cell_words (ObjectCell class entries) = entries
cell_words (ClassCell decl base encl holder over) = encl ∷ holder ∷ over ∷ []
cell_words (BlockCell body env home receiver holder) = receiver ∷ env ∷ []
cell_words (EnvironmentCell parent locals) = locals
cell_words (ArrayCell items) = items
cell_words (TextCell bytes) = []
cell_words (FacetCell kind) = []
cell_words (MirrorCell mirrored) = mirrored ∷ []
cell_words (MessageCell sel args) = args ∷ []

-- the words that may be written, which are those of an object, an environment and an array
abbrev pub open_words : Cell → List Value
open_words (ObjectCell class entries) = entries
open_words (EnvironmentCell parent locals) = locals
open_words (ArrayCell items) = items
open_words _ = []

-- the cell with a word written
abbrev pub with_word : Cell → ℕ → Value → Cell
with_word (ObjectCell class entries) word value = ObjectCell class (slice_set entries word value)
with_word (EnvironmentCell parent locals) word value = EnvironmentCell parent (slice_set locals word value)
with_word (ArrayCell items) word value = ArrayCell (slice_set items word value)
with_word cell word value = cell

-- the bytes of a text
abbrev pub cell_bytes : Cell → List ℕ
cell_bytes (TextCell bytes) = bytes
cell_bytes _ = []

-- the text with a byte written
abbrev pub with_byte : Cell → ℕ → ℕ → Cell
with_byte (TextCell bytes) place byte = TextCell (slice_set bytes place byte)
with_byte cell place byte = cell
