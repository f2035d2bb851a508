-- How cells are laid out in words.
use Rattle.std.specs.Prelude.{ℕ, zero, suc, List, [], ◌∷◌, ◌++◌, length, map, take, drop, replicate, reverse}
use Rattle.std.specs.List.{slice_index_or}
use Rattle.ns_world.specs.declared.value.Value.{Value}
use Rattle.ns_world.specs.declared.value.Value.TheVariants.{Nil, True, False, Int, Sym, Kernel, Ref}
use Rattle.ns_world.specs.declared.cell.FacetKind.TheVariants.{Manifest}
use Rattle.ns_world.specs.declared.cell.NewCell.{NewCell}
use Rattle.ns_world.specs.declared.cell.NewCell.TheVariants as new
use Rattle.ns_world.specs.declared.head.Head.{Head}
use Rattle.ns_world.specs.declared.head.Head.TheVariants as head
use Rattle.ns_world.specs.declared.word.Word.{Word}
use Rattle.ns_world.specs.declared.word.Word.TheVariants.{Nil as NilWord, True as TrueWord, False as FalseWord, Int as IntWord, Sym as SymWord}
use Rattle.ns_world.specs.declared.word.Word.TheVariants.{Kernel as KernelWord, Ref as RefWord, Bytes, Object, Class, Block, Array, Text, Facet}
use Rattle.ns_world.specs.declared.word.Word.TheVariants.{Mirror, Message, NilWith, TrueWith, FalseWith, IntWith, SymWith, KernelWith, RefWith}
use Rattle.ns_world.specs.Cell.{Cell, ObjectCell, ClassCell, BlockCell, EnvironmentCell, ArrayCell, TextCell, FacetCell, MirrorCell, MessageCell, text_words}
use Rattle.ns_world.specs.Heap.{Heap}

-- the word of a value
abbrev pub word_of : Value → Word
word_of Nil = NilWord
word_of True = TrueWord
word_of False = FalseWord
word_of (Int number) = IntWord number
word_of (Sym sel) = SymWord sel
word_of (Kernel class) = KernelWord class
word_of (Ref at) = RefWord at

-- the word of a value with a number beside it
abbrev pub word_beside : ℕ → Value → Word
word_beside beside Nil = NilWith beside
word_beside beside True = TrueWith beside
word_beside beside False = FalseWith beside
word_beside beside (Int number) = IntWith beside number
word_beside beside (Sym sel) = SymWith beside sel
word_beside beside (Kernel class) = KernelWith beside class
word_beside beside (Ref at) = RefWith beside at

-- the value of a word, nil where it holds none
abbrev pub value_in : Word → Value
value_in TrueWord = True
value_in FalseWord = False
value_in (IntWord number) = Int number
value_in (SymWord sel) = Sym sel
value_in (KernelWord class) = Kernel class
value_in (RefWord at) = Ref at
value_in (TrueWith beside) = True
value_in (FalseWith beside) = False
value_in (IntWith beside number) = Int number
value_in (SymWith beside sel) = Sym sel
value_in (KernelWith beside class) = Kernel class
value_in (RefWith beside at) = Ref at
value_in _ = Nil

-- the number beside the value of a word, 0 where none stands there
abbrev pub beside_in : Word → ℕ
beside_in (NilWith beside) = beside
beside_in (TrueWith beside) = beside
beside_in (FalseWith beside) = beside
beside_in (IntWith beside number) = beside
beside_in (SymWith beside sel) = beside
beside_in (KernelWith beside class) = beside
beside_in (RefWith beside at) = beside
beside_in _ = 0

-- the first eight bytes, filled up with 0
abbrev pub eight : List ℕ → List ℕ
eight bytes = take 8 (bytes ++ replicate 8 0)

-- bytes in so many words of eight
abbrev pub packed : ℕ → List ℕ → List Word
packed zero bytes = []
packed (suc words) bytes = Bytes (eight bytes) ∷ packed words (drop 8 bytes)

-- the bytes of words, up to the first that holds none
abbrev pub unpacked : List Word → List ℕ
unpacked [] = []
unpacked (Bytes bytes ∷ words) = bytes ++ unpacked words
unpacked (_ ∷ words) = []

-- the first word of a cell
abbrev pub head_of : Cell → Word
head_of (ObjectCell class entries) = Object class (length entries)
head_of (ClassCell decl base encl holder over) = Class decl base
head_of (BlockCell body env home receiver holder) = Block body home
head_of (EnvironmentCell parent locals) = word_beside (length locals) parent
head_of (ArrayCell items) = Array (length items)
head_of (TextCell bytes) = Text (length bytes)
head_of (FacetCell kind) = Facet kind
head_of (MirrorCell mirrored) = Mirror
head_of (MessageCell sel args) = Message sel

-- the words behind it
abbrev pub body_of : Cell → List Word
body_of (ObjectCell class entries) = map word_of entries
body_of (ClassCell decl base encl holder over) = word_of encl ∷ word_of holder ∷ word_of over ∷ []
body_of (BlockCell body env home receiver holder) = word_of receiver ∷ word_beside holder env ∷ []
body_of (EnvironmentCell parent locals) = map word_of locals
body_of (ArrayCell items) = map word_of items
body_of (TextCell bytes) = packed (text_words (length bytes)) bytes
body_of (FacetCell kind) = []
body_of (MirrorCell mirrored) = word_of mirrored ∷ []
body_of (MessageCell sel args) = word_of args ∷ NilWord ∷ []

-- the words of a cell
abbrev pub words_of : Cell → List Word
words_of cell = head_of cell ∷ body_of cell

-- the words of all cells, one behind the other
abbrev pub laid_out : Heap → List Word
laid_out [] = []
laid_out (cell ∷ earlier) = laid_out earlier ++ words_of cell

-- how many words stand behind a head
abbrev pub words_behind : Word → ℕ
words_behind (Bytes bytes) = 0
words_behind (Object class words) = words
words_behind (Class decl base) = 3
words_behind (Block body home) = 2
words_behind (Array size) = size
words_behind (Text bytes) = text_words bytes
words_behind (Facet kind) = 0
words_behind Mirror = 1
words_behind (Message sel) = 2
words_behind parent = beside_in parent

-- the value of a word of a list
abbrev pub value_at : List Word → ℕ → Value
value_at words k = value_in (slice_index_or words k NilWord)

-- the values of the first words
abbrev pub values_in : ℕ → List Word → List Value
values_in count words = map value_in (take count words)

-- the cell of a head and the words behind it
abbrev pub cell_of : Word → List Word → Cell
cell_of (Bytes bytes) words = FacetCell Manifest
cell_of (Object class count) words = ObjectCell class (values_in count words)
cell_of (Class decl base) words = ClassCell decl base (value_at words 0) (value_at words 1) (value_at words 2)
cell_of (Block body home) words =
    BlockCell body (value_at words 1) home (value_at words 0) (beside_in (slice_index_or words 1 NilWord))
cell_of (Array size) words = ArrayCell (values_in size words)
cell_of (Text bytes) words = TextCell (take bytes (unpacked words))
cell_of (Facet kind) words = FacetCell kind
cell_of Mirror words = MirrorCell (value_at words 0)
cell_of (Message sel) words = MessageCell sel (value_at words 0)
cell_of parent words = EnvironmentCell (value_in parent) (values_in (beside_in parent) words)

-- the cells that words stand for, the oldest first, past so many words
abbrev pub cells_from : ℕ → List Word → List Cell
cells_from skip [] = []
cells_from zero (head ∷ words) = cell_of head words ∷ cells_from (words_behind head) words
cells_from (suc skip) (head ∷ words) = cells_from skip words

-- the cells that words stand for
abbrev pub cells_in : List Word → Heap
cells_in words = reverse (cells_from 0 words)

-- the kind, the sizes and the fixed parts that a head and the words behind it tell
abbrev pub shape_in : Word → List Word → NewCell
shape_in (Bytes bytes) words = new.Mirror Nil
shape_in (Object class count) words = new.Object class count
shape_in (Class decl base) words = new.Class decl base (value_at words 0) (value_at words 1) (value_at words 2)
shape_in (Block body home) words =
    new.Block body (value_at words 1) home (value_at words 0) (beside_in (slice_index_or words 1 NilWord))
shape_in (Array size) words = new.Array size
shape_in (Text bytes) words = new.Text bytes
shape_in (Facet kind) words = new.Facet kind
shape_in Mirror words = new.Mirror (value_at words 0)
shape_in (Message sel) words = new.Message sel (value_at words 0)
shape_in parent words = new.Environment (value_in parent) (beside_in parent)

-- what a head tells by itself
abbrev pub head_in : Word → Head
head_in (Bytes bytes) = head.Mirror
head_in (Object class words) = head.Object class words
head_in (Class decl base) = head.Class decl base
head_in (Block body home) = head.Block body home
head_in (Array size) = head.Array size
head_in (Text bytes) = head.Text bytes
head_in (Facet kind) = head.Facet kind
head_in Mirror = head.Mirror
head_in (Message sel) = head.Message sel
head_in parent = head.Environment (beside_in parent)
