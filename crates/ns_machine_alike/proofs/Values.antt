-- Paired values, lists and cells: what they have in common.
use Rattle.std.proofs.Common.{◌≡◌, ℕ, zero, suc, ◌+◌, List, [], ◌∷◌, ◌++◌, length, Bool, true, false, cond, refl, ap, replicate, arith}
use Rattle.std.specs.Prelude.{slice_set}
use Rattle.std.specs.List.{slice_index_or}
use Rattle.ns_world.specs.declared.value.Value.{Value}
use Rattle.ns_world.specs.declared.value.Value.TheVariants.{Nil}
use Rattle.ns_world.specs.declared.cell.FacetKind.{FacetKind}
use Rattle.ns_world.specs.Cell.{Cell, ObjectCell, ClassCell, BlockCell, EnvironmentCell, ArrayCell, TextCell, FacetCell, MirrorCell, MessageCell, cell_size, cell_words, with_word, text_words}
use Rattle.ns_world.specs.Heap.{Heap}
use Rattle.ns_world.specs.Seek.{is_facet, is_top, is_nil}
use Rattle.ns_moves.specs.Control.{Progress}
use Rattle.ns_machine_alike.specs.Paired.{Paired, Partners, Same, AllPaired, CellPaired}

-- ---- tests

-- Two choices by the same test are related where their parts are.
pub cond_so : {A B : Type 0} (P : A → B → Type 0) (b c : Bool) (x y : A) (x' y' : B) → b ≡ c → (b ≡ true → P x x') → (b ≡ false → P y y') →
    P (cond b x y) (cond c x' y')
cond_so P true true x y x' y' e then other = then refl
cond_so P false false x y x' y' e then other = other refl
cond_so P true false x y x' y' e then other = absurd (cc (e))
cond_so P false true x y x' y' e then other = absurd (cc (e))

module _ (Pair : ℕ → ℕ → Type 0) where
  -- ---- lists of values

  pub all_append : (xs ys xs' ys' : List Value) → AllPaired Pair xs xs' → AllPaired Pair ys ys' → AllPaired Pair (xs ++ ys) (xs' ++ ys')
  all_append [] ys [] ys' p q = q
  all_append [] ys (x' ∷ xs') ys' p q = absurd p
  all_append (x ∷ xs) ys [] ys' p q = absurd p
  all_append (x ∷ xs) ys (x' ∷ xs') ys' p q = (p.0, all_append xs ys xs' ys' p.1 q)

  pub all_nil : (n : ℕ) → AllPaired Pair (replicate n Nil) (replicate n Nil)
  all_nil zero = tt
  all_nil (suc n) = (Same Nil refl, all_nil n)

  pub at_index : (values others : List Value) (k : ℕ) → AllPaired Pair values others → Paired Pair (slice_index_or values k Nil) (slice_index_or others k Nil)
  at_index [] [] k p = Same Nil refl
  at_index [] (other ∷ others) k p = absurd p
  at_index (value ∷ values) [] k p = absurd p
  at_index (value ∷ values) (other ∷ others) zero p = p.0
  at_index (value ∷ values) (other ∷ others) (suc k) p = at_index values others k p.1

  pub all_set : (values others : List Value) (k : ℕ) (value other : Value) → AllPaired Pair values others → Paired Pair value other → AllPaired Pair (slice_set values k value) (slice_set others k other)
  all_set [] [] k value other p q = tt
  all_set [] (old' ∷ others) k value other p q = absurd p
  all_set (old ∷ values) [] k value other p q = absurd p
  all_set (old ∷ values) (old' ∷ others) zero value other p q = (q, p.1)
  all_set (old ∷ values) (old' ∷ others) (suc k) value other p q = (p.0, all_set values others k value other p.1 q)

  pub same_length : (values others : List Value) → AllPaired Pair values others → length values ≡ length others
  same_length [] [] p = refl
  same_length [] (other ∷ others) p = absurd p
  same_length (value ∷ values) [] p = absurd p
  same_length (value ∷ values) (other ∷ others) p = omega (arith, same_length values others p.1)

  -- ---- values

  pub same_nil : (value other : Value) → Paired Pair value other → is_nil value ≡ is_nil other
  same_nil value other (Partners n m p) = refl
  same_nil value other (Same same e) = refl

module _ (Pair : ℕ → ℕ → Type 0) (first second : Progress) where
  -- ---- cells

  pub words_paired : (heap other : Heap) (cell cell' : Cell) → CellPaired Pair first second heap other cell cell' → AllPaired Pair (cell_words cell) (cell_words cell')
  words_paired heap other (ObjectCell class entries) (ObjectCell class' entries') p = p.1
  words_paired heap other (ClassCell decl base encl holder over) (ClassCell decl' base' encl' holder' over') p = (p.1, (p.2, (p.3, tt)))
  words_paired heap other (BlockCell body env home receiver holder) (BlockCell body' env' home' receiver' holder') p = (p.3, (p.1, tt))
  words_paired heap other (EnvironmentCell parent locals) (EnvironmentCell parent' locals') p = p.1
  words_paired heap other (ArrayCell items) (ArrayCell items') p = p
  words_paired heap other (TextCell bytes) (TextCell bytes') p = tt
  words_paired heap other (FacetCell kind) (FacetCell kind') p = tt
  words_paired heap other (MirrorCell mirrored) (MirrorCell mirrored') p = (p, tt)
  words_paired heap other (MessageCell sel args) (MessageCell sel' args') p = (p.1, tt)
  words_paired heap other cell cell' p = absurd p

  pub same_size : (heap other : Heap) (cell cell' : Cell) → CellPaired Pair first second heap other cell cell' → cell_size cell ≡ cell_size cell'
  same_size heap other (ObjectCell class entries) (ObjectCell class' entries') p = ap (λ n. 1 + n) (same_length Pair entries entries' p.1)
  same_size heap other (ClassCell decl base encl holder over) (ClassCell decl' base' encl' holder' over') p = refl
  same_size heap other (BlockCell body env home receiver holder) (BlockCell body' env' home' receiver' holder') p = refl
  same_size heap other (EnvironmentCell parent locals) (EnvironmentCell parent' locals') p = ap (λ n. 1 + n) (same_length Pair locals locals' p.1)
  same_size heap other (ArrayCell items) (ArrayCell items') p = ap (λ n. 1 + n) (same_length Pair items items' p)
  same_size heap other (TextCell bytes) (TextCell bytes') p = ap (λ b. 1 + text_words (length b)) p
  same_size heap other (FacetCell kind) (FacetCell kind') p = refl
  same_size heap other (MirrorCell mirrored) (MirrorCell mirrored') p = refl
  same_size heap other (MessageCell sel args) (MessageCell sel' args') p = refl
  same_size heap other cell cell' p = absurd p

  -- paired cells pass the same tests
  pub same_top : (heap other : Heap) (decl : ℕ) (cell cell' : Cell) → CellPaired Pair first second heap other cell cell' → is_top decl cell ≡ is_top decl cell'
  same_top heap other d (ClassCell decl base encl holder over) (ClassCell decl' base' encl' holder' over') p = let e = p.0 in let n = same_nil Pair encl encl' p.1 in cc
  same_top heap other d (ObjectCell class entries) (ObjectCell class' entries') p = refl
  same_top heap other d (BlockCell body env home receiver holder) (BlockCell body' env' home' receiver' holder') p = refl
  same_top heap other d (EnvironmentCell parent locals) (EnvironmentCell parent' locals') p = refl
  same_top heap other d (ArrayCell items) (ArrayCell items') p = refl
  same_top heap other d (TextCell bytes) (TextCell bytes') p = refl
  same_top heap other d (FacetCell kind) (FacetCell kind') p = refl
  same_top heap other d (MirrorCell mirrored) (MirrorCell mirrored') p = refl
  same_top heap other d (MessageCell sel args) (MessageCell sel' args') p = refl
  same_top heap other d cell cell' p = absurd p

  pub same_facet : (heap other : Heap) (kind : FacetKind) (cell cell' : Cell) → CellPaired Pair first second heap other cell cell' → is_facet kind cell ≡ is_facet kind cell'
  same_facet heap other k (FacetCell kind) (FacetCell kind') p = ap (λ f. is_facet k (FacetCell f)) p.0
  same_facet heap other k (ClassCell decl base encl holder over) (ClassCell decl' base' encl' holder' over') p = refl
  same_facet heap other k (ObjectCell class entries) (ObjectCell class' entries') p = refl
  same_facet heap other k (BlockCell body env home receiver holder) (BlockCell body' env' home' receiver' holder') p = refl
  same_facet heap other k (EnvironmentCell parent locals) (EnvironmentCell parent' locals') p = refl
  same_facet heap other k (ArrayCell items) (ArrayCell items') p = refl
  same_facet heap other k (TextCell bytes) (TextCell bytes') p = refl
  same_facet heap other k (MirrorCell mirrored) (MirrorCell mirrored') p = refl
  same_facet heap other k (MessageCell sel args) (MessageCell sel' args') p = refl
  same_facet heap other k cell cell' p = absurd p

  -- a word that is written in both
  pub word_paired : (heap other : Heap) (cell cell' : Cell) (word : ℕ) (value value' : Value) → Paired Pair value value' → CellPaired Pair first second heap other cell cell'
      → CellPaired Pair first second heap other (with_word cell word value) (with_word cell' word value')
  word_paired heap other (ObjectCell class entries) (ObjectCell class' entries') word value value' q p = (p.0, all_set Pair entries entries' word value value' p.1 q)
  word_paired heap other (ClassCell decl base encl holder over) (ClassCell decl' base' encl' holder' over') word value value' q p = p
  word_paired heap other (BlockCell body env home receiver holder) (BlockCell body' env' home' receiver' holder') word value value' q p = p
  word_paired heap other (EnvironmentCell parent locals) (EnvironmentCell parent' locals') word value value' q p = (p.0, all_set Pair locals locals' word value value' p.1 q)
  word_paired heap other (ArrayCell items) (ArrayCell items') word value value' q p = all_set Pair items items' word value value' p q
  word_paired heap other (TextCell bytes) (TextCell bytes') word value value' q p = p
  word_paired heap other (FacetCell kind) (FacetCell kind') word value value' q p = p
  word_paired heap other (MirrorCell mirrored) (MirrorCell mirrored') word value value' q p = p
  word_paired heap other (MessageCell sel args) (MessageCell sel' args') word value value' q p = p
  word_paired heap other cell cell' word value value' q p = absurd p
