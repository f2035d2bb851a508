-- Cells that are made and words that are written keep a set of cells closed.
use Rattle.std.proofs.Common.{◌≡◌, ℕ, zero, suc, List, [], ◌∷◌, ◌++◌, Option, Some, None, Bool, true, false, cond, eqb, refl, sym, ap, ◌∙◌, subst, replicate}
use Rattle.std.specs.Prelude.{slice_set}
use Rattle.std.specs.List.{slice_index_or}
use Rattle.std.proofs.lemmas.Bool.{eqb-true, eq-eqb}
use Rattle.ns_world.specs.declared.value.Value.{Value}
use Rattle.ns_world.specs.declared.value.Value.TheVariants.{Nil}
use Rattle.ns_world.specs.declared.cell.FacetKind.{FacetKind}
use Rattle.ns_world.specs.declared.cell.FacetKind.TheVariants.{Manifest, Platform, Console, Mirrors, Kernel as KernelFacet, Board}
use Rattle.ns_world.specs.Cell.{Cell, ObjectCell, ClassCell, BlockCell, EnvironmentCell, ArrayCell, TextCell, FacetCell, MirrorCell, MessageCell, cell_words, with_word}
use Rattle.ns_world.specs.Heap.{Heap, heap_size, find_cell, set_cell, write_word}
use Rattle.ns_world.specs.Seek.{first_such, earlier_or, is_facet, is_top}
use Rattle.ns_world.specs.laws.Changing.{word_plainly, changing_leaves, set_here}
use Rattle.ns_machine_reach.specs.Within.{In, AllIn, NumberIn, CellIn}

-- ---- lists of values

module _ (Has : ℕ → Type 0) where
  pub all_append : (xs ys : List Value) → AllIn Has xs → AllIn Has ys → AllIn Has (xs ++ ys)
  all_append [] ys h k = k
  all_append (x ∷ xs) ys h k = (h.0, all_append xs ys h.1 k)

  pub all_nil : (n : ℕ) → AllIn Has (replicate n Nil)
  all_nil zero = tt
  all_nil (suc n) = (tt, all_nil n)

  pub at_index : (values : List Value) (k : ℕ) → AllIn Has values → In Has (slice_index_or values k Nil)
  at_index [] k h = tt
  at_index (value ∷ values) zero h = h.0
  at_index (value ∷ values) (suc k) h = at_index values k h.1

  pub all_set : (values : List Value) (k : ℕ) (value : Value) → AllIn Has values → In Has value → AllIn Has (slice_set values k value)
  all_set [] k value h i = tt
  all_set (old ∷ values) zero value h i = (i, h.1)
  all_set (old ∷ values) (suc k) value h i = (h.0, all_set values k value h.1 i)

  -- ---- cells

  -- what a cell's words hold
  pub words_in : (heap : Heap) (cell : Cell) → CellIn Has heap cell → AllIn Has (cell_words cell)
  words_in heap (ObjectCell class entries) h = h.1
  words_in heap (ClassCell decl base encl holder over) h = (h.0, (h.1, (h.2, tt)))
  words_in heap (BlockCell body env home receiver holder) h = (h.1, (h.0, tt))
  words_in heap (EnvironmentCell parent locals) h = h.1
  words_in heap (ArrayCell items) h = h
  words_in heap (TextCell bytes) h = tt
  words_in heap (FacetCell kind) h = tt
  words_in heap (MirrorCell mirrored) h = (h, tt)
  words_in heap (MessageCell sel args) h = (h, tt)

  -- the first of what is sought is in the set when one more cell is made
  pub first_in_more : (test : Cell → Bool) (heap : Heap) (cell : Cell) → Has (heap_size heap) → NumberIn Has (first_such test heap) → NumberIn Has (first_such test (cell ∷ heap))
  first_in_more test heap cell new h = by (first_such test heap) (test cell) h
    where
      by : (o : Option ℕ) (b : Bool) → NumberIn Has o → NumberIn Has (earlier_or o (cond b (Some (heap_size heap)) None))
      by (Some n) b h = h
      by None true h = new
      by None false h = tt

  pub cell_in_more : (heap : Heap) (more old : Cell) → Has (heap_size heap) → CellIn Has heap old → CellIn Has (more ∷ heap) old
  cell_in_more heap more (ObjectCell class entries) new h = h
  cell_in_more heap more (ClassCell decl base encl holder over) new h = h
  cell_in_more heap more (BlockCell body env home receiver holder) new h = h
  cell_in_more heap more (EnvironmentCell parent locals) new h = h
  cell_in_more heap more (ArrayCell items) new h = h
  cell_in_more heap more (TextCell bytes) new h = h
  cell_in_more heap more (FacetCell Manifest) new h = λ decl. first_in_more (is_top decl) heap more new (h decl)
  cell_in_more heap more (FacetCell Platform) new h = λ kind granted. first_in_more (is_facet kind) heap more new (h kind granted)
  cell_in_more heap more (FacetCell Console) new h = h
  cell_in_more heap more (FacetCell Mirrors) new h = h
  cell_in_more heap more (FacetCell KernelFacet) new h = h
  cell_in_more heap more (FacetCell Board) new h = h
  cell_in_more heap more (MirrorCell mirrored) new h = h
  cell_in_more heap more (MessageCell sel args) new h = h

  -- and where the firsts stay
  pub cell_in_other : (heap other : Heap) (cell : Cell) → ((decl : ℕ) → first_such (is_top decl) other ≡ first_such (is_top decl) heap) → ((kind : FacetKind) → first_such (is_facet kind) other ≡ first_such (is_facet kind) heap)
      → CellIn Has heap cell → CellIn Has other cell
  cell_in_other heap other (ObjectCell class entries) tops facets h = h
  cell_in_other heap other (ClassCell decl base encl holder over) tops facets h = h
  cell_in_other heap other (BlockCell body env home receiver holder) tops facets h = h
  cell_in_other heap other (EnvironmentCell parent locals) tops facets h = h
  cell_in_other heap other (ArrayCell items) tops facets h = h
  cell_in_other heap other (TextCell bytes) tops facets h = h
  cell_in_other heap other (FacetCell Manifest) tops facets h = λ decl. subst (NumberIn Has) (sym (tops decl)) (h decl)
  cell_in_other heap other (FacetCell Platform) tops facets h = λ kind granted. subst (NumberIn Has) (sym (facets kind)) (h kind granted)
  cell_in_other heap other (FacetCell Console) tops facets h = h
  cell_in_other heap other (FacetCell Mirrors) tops facets h = h
  cell_in_other heap other (FacetCell KernelFacet) tops facets h = h
  cell_in_other heap other (FacetCell Board) tops facets h = h
  cell_in_other heap other (MirrorCell mirrored) tops facets h = h
  cell_in_other heap other (MessageCell sel args) tops facets h = h

  pub word_in_cell : (heap : Heap) (cell : Cell) (word : ℕ) (value : Value) → In Has value → CellIn Has heap cell → CellIn Has heap (with_word cell word value)
  word_in_cell heap (ObjectCell class entries) word value i h = (h.0, all_set entries word value h.1 i)
  word_in_cell heap (ClassCell decl base encl holder over) word value i h = h
  word_in_cell heap (BlockCell body env home receiver holder) word value i h = h
  word_in_cell heap (EnvironmentCell parent locals) word value i h = (h.0, all_set locals word value h.1 i)
  word_in_cell heap (ArrayCell items) word value i h = all_set items word value h i
  word_in_cell heap (TextCell bytes) word value i h = h
  word_in_cell heap (FacetCell kind) word value i h = h
  word_in_cell heap (MirrorCell mirrored) word value i h = h
  word_in_cell heap (MessageCell sel args) word value i h = h

-- a facet stays one, and no other cell becomes one
pub facet_word : (cell : Cell) (word : ℕ) (value : Value) (kind : FacetKind) → with_word cell word value ≡ FacetCell kind →
    cell ≡ FacetCell kind
facet_word (ObjectCell class entries) word value kind e = absurd (cc (e))
facet_word (ClassCell decl base encl holder over) word value kind e = e
facet_word (BlockCell body env home receiver holder) word value kind e = e
facet_word (EnvironmentCell parent locals) word value kind e = absurd (cc (e))
facet_word (ArrayCell items) word value kind e = absurd (cc (e))
facet_word (TextCell bytes) word value kind e = e
facet_word (FacetCell other) word value kind e = e
facet_word (MirrorCell mirrored) word value kind e = e
facet_word (MessageCell sel args) word value kind e = e

-- What stands at a number after a word was written: the cell with the word, or what stood there.
pub data Written (heap : Heap) (at word : ℕ) (value : Value) (n : ℕ) (cell : Cell) : Type 0 where
  Here : (old : Cell) → n ≡ at → find_cell heap at ≡ Some old → cell ≡ with_word old word value → Written heap at word value n cell
  There : find_cell heap n ≡ Some cell → Written heap at word value n cell

pub written_at : (heap : Heap) (at word : ℕ) (value : Value) (n : ℕ) (cell : Cell) →
    find_cell (write_word heap at word value) n ≡ Some cell → Written heap at word value n cell
written_at heap at word value n cell e = by (eqb n at) refl (find_cell heap at) refl
  where
    after : Heap
    after = write_word heap at word value

    by : (b : Bool) → eqb n at ≡ b → (o : Option Cell) → find_cell heap at ≡ o → Written heap at word value n cell
    by true t None f =
        let same : after ≡ heap = rw f refl in
        There (ap (λ h. find_cell h n) (sym same) ∙ e)
    by true t (Some old) f =
        let is : after ≡ set_cell heap at (with_word old word value) = rw f refl in
        let here : find_cell after at ≡ Some (with_word old word value) = ap (λ h. find_cell h at) is ∙ set_here heap at old (with_word old word value) f ((word_plainly word value).size old) in
        let same : n ≡ at = eqb-true n at t in
        let it : Some cell ≡ Some (with_word old word value) = sym e ∙ (ap (λ k. find_cell after k) same ∙ here) in
        Here old same f (cc)
    by false t o f =
        There (sym ((changing_leaves heap at (λ c. with_word c word value) (word_plainly word value)).others n (λ q. let x : eqb n at ≡ true = eq-eqb n at q in absurd (cc))) ∙ e)
