-- The shape of a cell is read from its words.
use Rattle.std.proofs.Common.{◌≡◌, ℕ, ◌+◌, ◌<◌, List, [], ◌∷◌, length, get_or, refl, ap, sym, ◌∙◌, arith, Option, Some, None, IsSome}
use Rattle.ns_world.specs.declared.value.Value.{Value}
use Rattle.ns_world.specs.declared.value.Value.TheVariants.{Nil, True, False, Int, Sym, Kernel, Ref}
use Rattle.ns_world.specs.declared.cell.NewCell.TheVariants.{Environment}
use Rattle.ns_world.specs.declared.word.Word.{Word}
use Rattle.ns_world.specs.declared.word.Word.TheVariants.{Nil as NilWord}
use Rattle.ns_world.specs.Cell.{Cell, ObjectCell, ClassCell, BlockCell, EnvironmentCell, ArrayCell, TextCell, FacetCell, MirrorCell, MessageCell, cell_size, shape_of}
use Rattle.ns_world.specs.Heap.{Heap, find_cell, shape_at}
use Rattle.ns_world.specs.Words.{word_beside, words_of, laid_out, shape_in}
use Rattle.ns_world.proofs.LaidOut.{value_in-word_of, value_in-word_beside, beside_in-word_beside}
use Rattle.ns_world.proofs.Standing.{word_of_cell}

environment_shape : (parent : Value) (n : ℕ) (words : List Word) → shape_in (word_beside n parent) words ≡ Environment parent n
environment_shape Nil n words = refl
environment_shape True n words = refl
environment_shape False n words = refl
environment_shape (Int number) n words = refl
environment_shape (Sym sel) n words = refl
environment_shape (Kernel class) n words = refl
environment_shape (Ref at) n words = refl

-- the next words behind a head
abbrev pub three : (ℕ → Word) → List Word
three at = at 1 ∷ at 2 ∷ at 3 ∷ []

shape_in-cell : (cell : Cell) (at : ℕ → Word) → ((j : ℕ) → j < cell_size cell → at j ≡ get_or (words_of cell) j NilWord) →
    shape_in (at 0) (three at) ≡ shape_of cell
shape_in-cell (ObjectCell class entries) at e = rw (e 0 (omega arith)) refl
shape_in-cell (ClassCell decl base encl holder over) at e =
    rw (e 0 (omega arith), e 1 (omega arith), e 2 (omega arith), e 3 (omega arith), value_in-word_of encl, value_in-word_of holder, value_in-word_of over) refl
shape_in-cell (BlockCell body env home receiver holder) at e =
    rw (e 0 (omega arith), e 1 (omega arith), e 2 (omega arith), value_in-word_of receiver, value_in-word_beside holder env, beside_in-word_beside holder env) refl
shape_in-cell (EnvironmentCell parent locals) at e = rw (e 0 (omega arith)) (environment_shape parent (length locals) (three at))
shape_in-cell (ArrayCell items) at e = rw (e 0 (omega arith)) refl
shape_in-cell (TextCell bytes) at e = rw (e 0 (omega arith)) refl
shape_in-cell (FacetCell kind) at e = rw (e 0 (omega arith)) refl
shape_in-cell (MirrorCell mirrored) at e = rw (e 0 (omega arith), e 1 (omega arith), value_in-word_of mirrored) refl
shape_in-cell (MessageCell sel args) at e = rw (e 0 (omega arith), e 1 (omega arith), value_in-word_of args) refl

-- the words from a live cell's number on tell its shape
pub shape_at-words : (heap : Heap) (words : List Word) (n : ℕ) (cell : Cell) → laid_out heap ≡ words → find_cell heap n ≡ Some cell →
    shape_in (get_or words n NilWord) (three (λ j. get_or words (n + j) NilWord)) ≡ shape_at heap n
shape_at-words heap words n cell laid e =
    let at : ℕ → Word = λ j. get_or words (n + j) NilWord in
    let same : (j : ℕ) → j < cell_size cell → at j ≡ get_or (words_of cell) j NilWord =
    λ j h. ap (λ ws. get_or ws (n + j) NilWord) (sym laid) ∙ word_of_cell heap n cell j NilWord e h in
    let first : get_or words n NilWord ≡ at 0 = ap (λ i. get_or words i NilWord) (omega arith) in
    let shape : shape_at heap n ≡ shape_of cell = rw e refl in
    ap (λ w. shape_in w (three at)) first ∙ (shape_in-cell cell at same ∙ sym shape)

-- the same where some cell has that number
pub shape_told : (heap : Heap) (words : List Word) (n : ℕ) → laid_out heap ≡ words → IsSome (find_cell heap n) →
    shape_in (get_or words n NilWord) (get_or words (n + 1) NilWord ∷ get_or words (n + 2) NilWord ∷ get_or words (n + 3) NilWord ∷ []) ≡ shape_at heap n
shape_told heap words n laid h = found (find_cell heap n) refl h
  where
    found : (o : Option Cell) → find_cell heap n ≡ o → IsSome o → shape_in (get_or words n NilWord) (get_or words (n + 1) NilWord ∷ get_or words (n + 2) NilWord ∷ get_or words (n + 3) NilWord ∷ []) ≡ shape_at heap n
    found None e h = absurd (cc)
    found (Some cell) e h = shape_at-words heap words n cell laid e
