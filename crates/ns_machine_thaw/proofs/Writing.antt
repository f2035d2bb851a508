-- The words of the last cell are written one after another.
use Rattle.std.proofs.Common.{◌≡◌, ℕ, ◌+◌, ◌<◌, ◌≤◌, List, [], ◌∷◌, ◌++◌, length, take, refl, ap, sym, ◌∙◌, arith, slice_set, length-set}
use Rattle.std.proofs.lemmas.Bool.{eq-eqb}
use Rattle.std.proofs.lemmas.List.{take_more_set, take_all}
use Rattle.ns_world.specs.declared.value.Value.{Value}
use Rattle.ns_world.specs.Cell.{Cell, ObjectCell, ClassCell, BlockCell, EnvironmentCell, ArrayCell, TextCell, FacetCell, MirrorCell, MessageCell, open_words, with_word}
use Rattle.ns_world.specs.Heap.{Heap, heap_size, write_word, open_words_at}
use Rattle.ns_world.specs.World.{WorldView, written}
use Rattle.ns_world.specs.laws.Changing.{found_new}
use Rattle.ns_machine_thaw.specs.Cells.{EndsWith, of_words, with_words}

-- ---- one cell

-- a word that is written is among those that may be
open_written : (cell : Cell) (word : ℕ) (value : Value) → open_words (with_word cell word value) ≡ slice_set (open_words cell) word value
open_written (ObjectCell class entries) word value = refl
open_written (ClassCell decl base encl holder over) word value = refl
open_written (BlockCell body env home receiver holder) word value = refl
open_written (EnvironmentCell parent locals) word value = refl
open_written (ArrayCell items) word value = refl
open_written (TextCell bytes) word value = refl
open_written (FacetCell kind) word value = refl
open_written (MirrorCell mirrored) word value = refl
open_written (MessageCell sel args) word value = refl

-- where all are to be others, it changes nothing
others_same : (cell : Cell) (word : ℕ) (value : Value) (words : List Value) → of_words words (with_word cell word value) ≡ of_words words cell
others_same (ObjectCell class entries) word value words = refl
others_same (ClassCell decl base encl holder over) word value words = refl
others_same (BlockCell body env home receiver holder) word value words = refl
others_same (EnvironmentCell parent locals) word value words = refl
others_same (ArrayCell items) word value words = refl
others_same (TextCell bytes) word value words = refl
others_same (FacetCell kind) word value words = refl
others_same (MirrorCell mirrored) word value words = refl
others_same (MessageCell sel args) word value words = refl

-- a cell is that of its own words
of_own : (cell : Cell) (words : List Value) → open_words cell ≡ words → cell ≡ of_words words cell
of_own (ObjectCell class entries) words is = ap (ObjectCell class) is
of_own (ClassCell decl base encl holder over) words is = refl
of_own (BlockCell body env home receiver holder) words is = refl
of_own (EnvironmentCell parent locals) words is = ap (EnvironmentCell parent) is
of_own (ArrayCell items) words is = ap ArrayCell is
of_own (TextCell bytes) words is = refl
of_own (FacetCell kind) words is = refl
of_own (MirrorCell mirrored) words is = refl
of_own (MessageCell sel args) words is = refl

-- ---- the last cell

-- the last cell with a word written
write_last : (cell : Cell) (word : ℕ) (value : Value) (earlier : Heap)
    → write_word (cell ∷ earlier) (heap_size earlier) word value ≡ with_word cell word value ∷ earlier
write_last cell word value earlier = rw (eq-eqb (heap_size earlier) (heap_size earlier) refl) refl

open_last : (cell : Cell) (earlier : Heap) → open_words_at (cell ∷ earlier) (heap_size earlier) ≡ open_words cell
open_last cell earlier = rw (found_new earlier cell) refl

-- the world with other cells
abbrev pub in_cells : WorldView → Heap → WorldView
in_cells view cells = record view { world = record view.world { cells = cells } }

-- So many words have been written.
pub record Writing (at : ℕ) (words : List Value) (done : ℕ) (old new : WorldView) : Type 0 where
  pub cell : Cell
  pub earlier : Heap
  pub last : at ≡ heap_size earlier
  pub whole : with_words words old.world.cells ≡ of_words words cell ∷ earlier
  pub now : new ≡ in_cells old (cell ∷ earlier)
  pub count : length (open_words cell) ≡ length words
  pub same : take done (open_words cell) ≡ take done words

pub writing_starts : (at : ℕ) (words : List Value) (world : WorldView) → EndsWith at (length words) world.world.cells → Writing at words 0 world world
writing_starts at words world ends = by_cells world.world.cells refl ends
  where
    by_cells : (cells : Heap) → world.world.cells ≡ cells → EndsWith at (length words) cells → Writing at words 0 world world
    by_cells [] e ends = absurd ends
    by_cells (cell ∷ earlier) e ends = record {
      cell = cell;
      earlier = earlier;
      last = ends.0;
      whole = ap (with_words words) e;
      now = ap (in_cells world) e;
      count = ends.1;
      same = refl;
    }

-- a word that is to be written is there
pub word_there : (at : ℕ) (words : List Value) (done : ℕ) (old new : WorldView) → done < length words → Writing at words done old new
    → done < length (open_words_at new.world.cells at)
word_there at words done old new more is =
    let cells : new.world.cells ≡ is.cell ∷ is.earlier = ap (λ (w : WorldView). w.world.cells) is.now in
    let shown : open_words_at new.world.cells at ≡ open_words is.cell =
    ap (λ (h : Heap). open_words_at h at) cells ∙ (ap (open_words_at (is.cell ∷ is.earlier)) is.last ∙ open_last is.cell is.earlier) in
    let size = ap length shown in
    let count = is.count in
    omega (arith, more, size, count)

pub writing_goes_on : (at : ℕ) (words : List Value) (done : ℕ) (old new after : WorldView) (value : Value) → done < length words
    → take (done + 1) words ≡ take done words ++ value ∷ [] → Writing at words done old new
    → after ≡ record new { world = written new.world at done value } → Writing at words (done + 1) old after
writing_goes_on at words done old new after value more next is write = record {
  cell = with_word is.cell done value;
  earlier = is.earlier;
  last = is.last;
  whole = is.whole ∙ ap (λ (cell : Cell). cell ∷ is.earlier) (sym (others_same is.cell done value words));
  now =
      write
      ∙ (ap (λ (w : WorldView). record w { world = written w.world at done value }) is.now
      ∙ ap (in_cells old)
      (ap (λ (n : ℕ). write_word (is.cell ∷ is.earlier) n done value) is.last ∙ write_last is.cell done value is.earlier));
  count = ap length (open_written is.cell done value) ∙ (length-set (open_words is.cell) done value ∙ is.count);
  same =
      let count = is.count in
      ap (take (done + 1)) (open_written is.cell done value)
      ∙ (take_more_set (open_words is.cell) done value (omega (arith, more, count))
      ∙ (ap (λ (front : List Value). front ++ value ∷ []) is.same ∙ sym next));
}

pub writing_ends : (at : ℕ) (words : List Value) (done : ℕ) (old new : WorldView) → length words ≤ done → Writing at words done old new
    → new ≡ in_cells old (with_words words old.world.cells)
writing_ends at words done old new past is =
    let count = is.count in
    let all : open_words is.cell ≡ words =
    sym (take_all done (open_words is.cell) (omega (arith, past, count))) ∙ (is.same ∙ take_all done words past) in
    is.now ∙ ap (in_cells old) (ap (λ (cell : Cell). cell ∷ is.earlier) (of_own is.cell words all) ∙ sym is.whole)
