-- Reading and writing one word of a cell.
use Rattle.std.proofs.Common.{◌≡◌, ℕ, zero, suc, ◌+◌, ◌<◌, ◌≤◌, List, [], ◌∷◌, length, map, get_or, set, refl, ap, sym, ◌∙◌, arith, Option, Some, None, length-set}
use Rattle.std.proofs.lemmas.List.{map-set}
use Rattle.ns_world.specs.declared.value.Value.{Value}
use Rattle.ns_world.specs.declared.value.Value.TheVariants.{Nil}
use Rattle.ns_world.specs.declared.word.Word.{Word}
use Rattle.ns_world.specs.Cell.{Cell, ObjectCell, ClassCell, BlockCell, EnvironmentCell, ArrayCell, TextCell, FacetCell, MirrorCell, MessageCell, cell_size, cell_words, open_words, with_word}
use Rattle.ns_world.specs.Heap.{Heap, find_cell, set_cell, words_at, word_at, open_words_at, write_word}
use Rattle.ns_world.specs.Words.{word_of, value_in, words_of, laid_out}
use Rattle.ns_world.proofs.LaidOut.{value_in-word_of, value_in-word_beside, length-laid_out}
use Rattle.ns_world.specs.laws.Standing.{stands-within}
use Rattle.ns_world.proofs.Standing.{word_of_cell, set_word_of_cell}
use Rattle.ns_world.specs.lemmas.Replacing.{Replaces, StaysReplaced, set_cell_stays}

-- a value among many that were laid out
mapped : (values : List Value) (k : ℕ) (d : Word) → k < length values → value_in (get_or (map word_of values) k d) ≡ get_or values k Nil
mapped [] k d h = absurd (omega arith)
mapped (value ∷ values) zero d h = value_in-word_of value
mapped (value ∷ values) (suc k) d h = mapped values k d (omega arith)

-- a word behind a head holds the cell's value
pub value_in_cell : (cell : Cell) (k : ℕ) (d : Word) → k < length (cell_words cell) →
    value_in (get_or (words_of cell) (suc k) d) ≡ get_or (cell_words cell) k Nil
value_in_cell (ObjectCell class entries) k d h = mapped entries k d h
value_in_cell (ClassCell decl base encl holder over) zero d h = value_in-word_of encl
value_in_cell (ClassCell decl base encl holder over) (suc zero) d h = value_in-word_of holder
value_in_cell (ClassCell decl base encl holder over) (suc (suc zero)) d h = value_in-word_of over
value_in_cell (ClassCell decl base encl holder over) (suc (suc (suc k))) d h = absurd (omega arith)
value_in_cell (BlockCell body env home receiver holder) zero d h = value_in-word_of receiver
value_in_cell (BlockCell body env home receiver holder) (suc zero) d h = value_in-word_beside holder env
value_in_cell (BlockCell body env home receiver holder) (suc (suc k)) d h = absurd (omega arith)
value_in_cell (EnvironmentCell parent locals) k d h = mapped locals k d h
value_in_cell (ArrayCell items) k d h = mapped items k d h
value_in_cell (TextCell bytes) k d h = absurd (omega arith)
value_in_cell (FacetCell kind) k d h = absurd (omega arith)
value_in_cell (MirrorCell mirrored) zero d h = value_in-word_of mirrored
value_in_cell (MirrorCell mirrored) (suc k) d h = absurd (omega arith)
value_in_cell (MessageCell sel args) zero d h = value_in-word_of args
value_in_cell (MessageCell sel args) (suc k) d h = absurd (omega arith)

words_fit : (cell : Cell) → 1 + length (cell_words cell) ≤ cell_size cell
words_fit (ObjectCell class entries) = omega arith
words_fit (ClassCell decl base encl holder over) = omega arith
words_fit (BlockCell body env home receiver holder) = omega arith
words_fit (EnvironmentCell parent locals) = omega arith
words_fit (ArrayCell items) = omega arith
words_fit (TextCell bytes) = omega arith
words_fit (FacetCell kind) = omega arith
words_fit (MirrorCell mirrored) = omega arith
words_fit (MessageCell sel args) = omega arith

-- What is known of a word inside a live cell: where it stands, and what it holds.
pub record ReadsWord (heap : Heap) (words : List Word) (n k : ℕ) : Type 0 where
  pub inside : n + 1 + k < length words
  pub value : (d : Word) → value_in (get_or words (n + 1 + k) d) ≡ word_at heap n k

pub reads_word : (heap : Heap) (words : List Word) (n k : ℕ) → laid_out heap ≡ words → k < length (words_at heap n) →
    ReadsWord heap words n k
reads_word heap words n k laid h = found (find_cell heap n) refl
  where
    found : (o : Option Cell) → find_cell heap n ≡ o → ReadsWord heap words n k
    found None e = absurd (omega (arith, let here : k < length (words_at heap n) = h in rw e at here))
    found (Some cell) e =
        let here : k < length (cell_words cell) = rw e at h in
        let fits : suc k < cell_size cell = omega (arith, words_fit cell) in
        let is : words_at heap n ≡ cell_words cell = rw e refl in
        let at : n + 1 + k ≡ n + suc k = omega arith in
        record {
          inside = omega (arith, stands-within heap n cell e, length-laid_out heap, ap length laid);
          value = λ d.
              ap (λ i. value_in (get_or words i d)) at
              ∙ (ap (λ ws. value_in (get_or ws (n + suc k) d)) (sym laid)
              ∙ (ap value_in (word_of_cell heap n cell (suc k) d e fits)
              ∙ (value_in_cell cell k d here ∙ ap (λ vs. get_or vs k Nil) (sym is))));
        }

-- a written word changes one word of the cell
pub words_of-with_word : (cell : Cell) (k : ℕ) (value : Value) → k < length (open_words cell) →
    words_of (with_word cell k value) ≡ set (words_of cell) (suc k) (word_of value)
words_of-with_word (ObjectCell class entries) k value h = rw (length-set entries k value, map-set word_of entries k value) refl
words_of-with_word (ClassCell decl base encl holder over) k value h = absurd (omega arith)
words_of-with_word (BlockCell body env home receiver holder) k value h = absurd (omega arith)
words_of-with_word (EnvironmentCell parent locals) k value h = rw (length-set locals k value, map-set word_of locals k value) refl
words_of-with_word (ArrayCell items) k value h = rw (length-set items k value, map-set word_of items k value) refl
words_of-with_word (TextCell bytes) k value h = absurd (omega arith)
words_of-with_word (FacetCell kind) k value h = absurd (omega arith)
words_of-with_word (MirrorCell mirrored) k value h = absurd (omega arith)
words_of-with_word (MessageCell sel args) k value h = absurd (omega arith)

-- a cell with a word written takes its place
pub with_word-replaces : (cell : Cell) (k : ℕ) (value : Value) → k < length (open_words cell) → Replaces cell (with_word cell k value)
with_word-replaces (ObjectCell class entries) k value h =
    record { size_stays = ap (λ n. 1 + n) (length-set entries k value); old_plain = refl; new_plain = refl }
with_word-replaces (ClassCell decl base encl holder over) k value h = absurd (omega arith)
with_word-replaces (BlockCell body env home receiver holder) k value h = absurd (omega arith)
with_word-replaces (EnvironmentCell parent locals) k value h =
    record { size_stays = ap (λ n. 1 + n) (length-set locals k value); old_plain = refl; new_plain = refl }
with_word-replaces (ArrayCell items) k value h =
    record { size_stays = ap (λ n. 1 + n) (length-set items k value); old_plain = refl; new_plain = refl }
with_word-replaces (TextCell bytes) k value h = absurd (omega arith)
with_word-replaces (FacetCell kind) k value h = absurd (omega arith)
with_word-replaces (MirrorCell mirrored) k value h = absurd (omega arith)
with_word-replaces (MessageCell sel args) k value h = absurd (omega arith)

open_fits : (cell : Cell) → 1 + length (open_words cell) ≤ cell_size cell
open_fits (ObjectCell class entries) = omega arith
open_fits (ClassCell decl base encl holder over) = omega arith
open_fits (BlockCell body env home receiver holder) = omega arith
open_fits (EnvironmentCell parent locals) = omega arith
open_fits (ArrayCell items) = omega arith
open_fits (TextCell bytes) = omega arith
open_fits (FacetCell kind) = omega arith
open_fits (MirrorCell mirrored) = omega arith
open_fits (MessageCell sel args) = omega arith

-- What is known of a write into a live cell: where it goes, and the words afterwards.
pub record WritesWord (heap : Heap) (words : List Word) (n k : ℕ) (value : Value) : Type 0 where
  pub inside : n + 1 + k < length words
  pub after : laid_out (write_word heap n k value) ≡ set words (n + 1 + k) (word_of value)
  pub stays : StaysReplaced heap (write_word heap n k value)

pub writes_word : (heap : Heap) (words : List Word) (n k : ℕ) (value : Value) → laid_out heap ≡ words → k < length (open_words_at heap n) →
    WritesWord heap words n k value
writes_word heap words n k value laid h = found (find_cell heap n) refl
  where
    found : (o : Option Cell) → find_cell heap n ≡ o → WritesWord heap words n k value
    found None e = absurd (omega (arith, let here : k < length (open_words_at heap n) = h in rw e at here))
    found (Some cell) e =
        let here : k < length (open_words cell) = rw e at h in
        let fits : suc k < cell_size cell = omega (arith, open_fits cell) in
        let is : write_word heap n k value ≡ set_cell heap n (with_word cell k value) = rw e refl in
        let at : n + suc k ≡ n + 1 + k = omega arith in
        record {
          inside = omega (arith, stands-within heap n cell e, length-laid_out heap, ap length laid);
          after =
              ap laid_out is
              ∙ (set_word_of_cell heap n cell (with_word cell k value) (suc k) (word_of value) e fits (words_of-with_word cell k value here)
              ∙ (ap (λ ws. set ws (n + suc k) (word_of value)) laid ∙ ap (λ i. set words i (word_of value)) at));
          stays = let s = set_cell_stays heap n cell (with_word cell k value) e (with_word-replaces cell k value here) in rw is s;
        }
