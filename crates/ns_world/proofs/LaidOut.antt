-- Words stand for the cells that were laid out.
use Rattle.std.proofs.Common.{◌≡◌, ℕ, List, [], ◌∷◌, ◌++◌, length, reverse, map, refl, ap, sym, ◌∙◌, arith, length-append, append_assoc, append-nil}
use Rattle.std.proofs.lemmas.List.{length-map, reverse-append, reverse-reverse}
use Rattle.ns_world.specs.declared.value.Value.{Value}
use Rattle.ns_world.specs.declared.value.Value.TheVariants.{Nil, True, False, Int, Sym, Kernel, Ref}
use Rattle.ns_world.specs.declared.word.Word.{Word}
use Rattle.ns_world.specs.Cell.{Cell, ObjectCell, ClassCell, BlockCell, EnvironmentCell, ArrayCell, TextCell, FacetCell, MirrorCell, MessageCell, cell_size, text_words}
use Rattle.ns_world.specs.Heap.{Heap, heap_size}
use Rattle.ns_world.specs.Words.{word_of, word_beside, value_in, beside_in, head_of, body_of, words_of, laid_out, words_behind, values_in, cell_of, cells_from, cells_in}
use Rattle.ns_world.proofs.Packing.{text_words-hold, length-packed, unpacked-packed}

pub value_in-word_of : (value : Value) → value_in (word_of value) ≡ value
value_in-word_of Nil = refl
value_in-word_of True = refl
value_in-word_of False = refl
value_in-word_of (Int number) = refl
value_in-word_of (Sym sel) = refl
value_in-word_of (Kernel class) = refl
value_in-word_of (Ref at) = refl

pub value_in-word_beside : (beside : ℕ) (value : Value) → value_in (word_beside beside value) ≡ value
value_in-word_beside beside Nil = refl
value_in-word_beside beside True = refl
value_in-word_beside beside False = refl
value_in-word_beside beside (Int number) = refl
value_in-word_beside beside (Sym sel) = refl
value_in-word_beside beside (Kernel class) = refl
value_in-word_beside beside (Ref at) = refl

pub beside_in-word_beside : (beside : ℕ) (value : Value) → beside_in (word_beside beside value) ≡ beside
beside_in-word_beside beside Nil = refl
beside_in-word_beside beside True = refl
beside_in-word_beside beside False = refl
beside_in-word_beside beside (Int number) = refl
beside_in-word_beside beside (Sym sel) = refl
beside_in-word_beside beside (Kernel class) = refl
beside_in-word_beside beside (Ref at) = refl

-- values that were laid out are read again
pub values_in-map : (values : List Value) (rest : List Word) → values_in (length values) (map word_of values ++ rest) ≡ values
values_in-map [] rest = refl
values_in-map (value ∷ values) rest =
    ap (λ v. v ∷ values_in (length values) (map word_of values ++ rest)) (value_in-word_of value) ∙ ap (λ vs. value ∷ vs) (values_in-map values rest)

-- an environment begins with its parent
environment_of : (parent : Value) (locals : List Value) (rest : List Word) →
    cell_of (word_beside (length locals) parent) (map word_of locals ++ rest) ≡ EnvironmentCell parent locals
environment_of Nil locals rest = ap (EnvironmentCell Nil) (values_in-map locals rest)
environment_of True locals rest = ap (EnvironmentCell True) (values_in-map locals rest)
environment_of False locals rest = ap (EnvironmentCell False) (values_in-map locals rest)
environment_of (Int number) locals rest = ap (EnvironmentCell (Int number)) (values_in-map locals rest)
environment_of (Sym sel) locals rest = ap (EnvironmentCell (Sym sel)) (values_in-map locals rest)
environment_of (Kernel class) locals rest = ap (EnvironmentCell (Kernel class)) (values_in-map locals rest)
environment_of (Ref at) locals rest = ap (EnvironmentCell (Ref at)) (values_in-map locals rest)

-- a cell's words stand for the cell
pub cell_of-words : (cell : Cell) (rest : List Word) → cell_of (head_of cell) (body_of cell ++ rest) ≡ cell
cell_of-words (ObjectCell class entries) rest = ap (ObjectCell class) (values_in-map entries rest)
cell_of-words (ClassCell decl base encl holder over) rest =
    grind (arith, value_in-word_of encl, value_in-word_of holder, value_in-word_of over)
cell_of-words (BlockCell body env home receiver holder) rest =
    grind (arith, value_in-word_of receiver, value_in-word_beside holder env, beside_in-word_beside holder env)
cell_of-words (EnvironmentCell parent locals) rest = environment_of parent locals rest
cell_of-words (ArrayCell items) rest = ap ArrayCell (values_in-map items rest)
cell_of-words (TextCell bytes) rest = ap TextCell (unpacked-packed (text_words (length bytes)) bytes rest (text_words-hold (length bytes)))
cell_of-words (FacetCell kind) rest = refl
cell_of-words (MirrorCell mirrored) rest = ap MirrorCell (value_in-word_of mirrored)
cell_of-words (MessageCell sel args) rest = ap (MessageCell sel) (value_in-word_of args)

words_behind-parent : (parent : Value) (n : ℕ) → words_behind (word_beside n parent) ≡ n
words_behind-parent Nil n = refl
words_behind-parent True n = refl
words_behind-parent False n = refl
words_behind-parent (Int number) n = refl
words_behind-parent (Sym sel) n = refl
words_behind-parent (Kernel class) n = refl
words_behind-parent (Ref at) n = refl

-- a head knows how many words stand behind it
pub words_behind-head : (cell : Cell) → words_behind (head_of cell) ≡ length (body_of cell)
words_behind-head (ObjectCell class entries) = sym (length-map entries word_of)
words_behind-head (ClassCell decl base encl holder over) = refl
words_behind-head (BlockCell body env home receiver holder) = refl
words_behind-head (EnvironmentCell parent locals) = words_behind-parent parent (length locals) ∙ sym (length-map locals word_of)
words_behind-head (ArrayCell items) = sym (length-map items word_of)
words_behind-head (TextCell bytes) = sym (length-packed (text_words (length bytes)) bytes)
words_behind-head (FacetCell kind) = refl
words_behind-head (MirrorCell mirrored) = refl
words_behind-head (MessageCell sel args) = refl

-- a cell takes as many words as it costs
pub length-words : (cell : Cell) → length (words_of cell) ≡ cell_size cell
length-words (ObjectCell class entries) = omega (arith, length-map entries word_of)
length-words (ClassCell decl base encl holder over) = refl
length-words (BlockCell body env home receiver holder) = refl
length-words (EnvironmentCell parent locals) = omega (arith, length-map locals word_of)
length-words (ArrayCell items) = omega (arith, length-map items word_of)
length-words (TextCell bytes) = omega (arith, length-packed (text_words (length bytes)) bytes)
length-words (FacetCell kind) = refl
length-words (MirrorCell mirrored) = refl
length-words (MessageCell sel args) = refl

pub length-laid_out : (heap : Heap) → length (laid_out heap) ≡ heap_size heap
length-laid_out [] = refl
length-laid_out (cell ∷ earlier) =
    omega (arith, length-append (laid_out earlier) (words_of cell), length-laid_out earlier, length-words cell)

-- words that are passed over don't matter
cells_from-past : (passed rest : List Word) → cells_from (length passed) (passed ++ rest) ≡ cells_from 0 rest
cells_from-past [] rest = refl
cells_from-past (word ∷ passed) rest = cells_from-past passed rest

-- all cells in words, the oldest first
unfoldable pub flat : List Cell → List Word
flat [] = []
flat (cell ∷ cells) = words_of cell ++ flat cells

pub cells_from-flat : (cells : List Cell) → cells_from 0 (flat cells) ≡ cells
unfolding flat
cells_from-flat [] = refl
cells_from-flat (cell ∷ cells) =
    let e : cells_from (words_behind (head_of cell)) (body_of cell ++ flat cells) ≡ cells =
    rw (words_behind-head cell) (cells_from-past (body_of cell) (flat cells) ∙ cells_from-flat cells) in
    rw (cell_of-words cell (flat cells), e) refl

pub flat-append : (cells : List Cell) (cell : Cell) → flat (cells ++ cell ∷ []) ≡ flat cells ++ words_of cell
unfolding flat
flat-append [] cell = append-nil (words_of cell)
flat-append (first ∷ cells) cell = rw (flat-append cells cell) (sym (append_assoc (words_of first) (flat cells) (words_of cell)))

pub laid_out-flat : (heap : Heap) → laid_out heap ≡ flat (reverse heap)
unfolding flat
laid_out-flat [] = refl
laid_out-flat (cell ∷ earlier) =
    ap (λ words. words ++ words_of cell) (laid_out-flat earlier) ∙ (sym (flat-append (reverse earlier) cell) ∙ ap flat (sym (reverse-append (cell ∷ []) earlier)))

-- the words of a heap stand for it
pub cells_in-laid_out : (heap : Heap) → cells_in (laid_out heap) ≡ heap
cells_in-laid_out heap = ap cells_in (laid_out-flat heap) ∙ (ap reverse (cells_from-flat (reverse heap)) ∙ reverse-reverse heap)
