-- A block is read from its three words.
use Rattle.std.proofs.Common.{◌≡◌, ℕ, ◌+◌, ◌<◌, List, [], ◌∷◌, length, get_or, refl, ap, sym, ◌∙◌, arith, Option, Some, None, IsSome}
use Rattle.std.proofs.lemmas.List.{get_or_default}
use Rattle.ns_world.specs.declared.cell.NewCell.TheVariants as new
use Rattle.ns_world.specs.declared.value.Value.{Value}
use Rattle.ns_world.specs.declared.word.Word.{Word}
use Rattle.ns_world.specs.declared.word.Word.TheVariants as word
use Rattle.ns_world.specs.Cell.{Cell, cell_words, shape_of, ObjectCell, ClassCell, BlockCell, EnvironmentCell, ArrayCell, TextCell, FacetCell, MirrorCell, MessageCell}
use Rattle.ns_world.specs.Heap.{Heap, find_cell, shape_at, words_at}
use Rattle.ns_world.specs.Words.{value_in, beside_in, laid_out, shape_in}
use Rattle.ns_world.proofs.Access.{reads_word}
use Rattle.ns_world.proofs.HeadTests.{reads_head}
use Rattle.ns_world.proofs.Shapes.{shape_told}

-- behind the head of a block stand two words
two_behind : (cell : Cell) (body home holder : ℕ) (env receiver : Value) → shape_of cell ≡ new.Block body env home receiver holder → 1 < length (cell_words cell)
two_behind (BlockCell b e h r o) body home holder env receiver is = omega arith
two_behind (ObjectCell class entries) body home holder env receiver is = absurd (cc)
two_behind (ClassCell decl base encl h over) body home holder env receiver is = absurd (cc)
two_behind (EnvironmentCell parent locals) body home holder env receiver is = absurd (cc)
two_behind (ArrayCell items) body home holder env receiver is = absurd (cc)
two_behind (TextCell bytes) body home holder env receiver is = absurd (cc)
two_behind (FacetCell kind) body home holder env receiver is = absurd (cc)
two_behind (MirrorCell mirrored) body home holder env receiver is = absurd (cc)
two_behind (MessageCell sel args) body home holder env receiver is = absurd (cc)

module _ (heap : Heap) (words : List Word) (n : ℕ) (laid : laid_out heap ≡ words) (some : IsSome (find_cell heap n)) (first : Word) (body home : ℕ)
    (at : get_or words n first ≡ first) (is : first ≡ word.Block body home) where
  -- the words behind the head, nil past the end
  abbrev behind : List Word
  behind = get_or words (n + 1) word.Nil ∷ get_or words (n + 2) word.Nil ∷ get_or words (n + 3) word.Nil ∷ []

  shape : shape_at heap n ≡ shape_in (word.Block body home) behind
  shape =
      sym (shape_told heap words n laid some)
      ∙ ap (λ w. shape_in w behind) (get_or_default words n word.Nil first (reads_head heap words n laid some).inside ∙ at ∙ is)

  two_there : (o : Option Cell) → find_cell heap n ≡ o → IsSome o → 1 < length (words_at heap n)
  two_there None e h = absurd (cc)
  two_there (Some cell) e h =
      let here : shape_at heap n ≡ shape_of cell = rw e refl in
      let words_are : words_at heap n ≡ cell_words cell = rw e refl in
      let two = two_behind cell body home (beside_in (get_or words (n + 2) word.Nil)) (value_in (get_or words (n + 2) word.Nil))
      (value_in (get_or words (n + 1) word.Nil)) (sym here ∙ shape) in
      omega (arith, two, ap length words_are)

  -- Two words stand behind the head of a block,
  pub block_inside : n + 2 < length words
  block_inside = let last = (reads_word heap words n 1 laid (two_there (find_cell heap n) refl some)).inside in omega (arith, last)

  -- and it is the block that these tell.
  pub block_told : (next second : Word) → get_or words (n + 1) next ≡ next → get_or words (n + 2) second ≡ second
      → shape_at heap n ≡ new.Block body (value_in second) home (value_in next) (beside_in second)
  block_told next second a b =
      let inside = block_inside in
      shape
      ∙ (ap (λ w. new.Block body (value_in (get_or words (n + 2) word.Nil)) home (value_in w) (beside_in (get_or words (n + 2) word.Nil)))
      (get_or_default words (n + 1) word.Nil next (omega (arith, inside)) ∙ a)
      ∙ ap (λ w. new.Block body (value_in w) home (value_in next) (beside_in w)) (get_or_default words (n + 2) word.Nil second inside ∙ b))
