-- One word tells whether a cell that can be a receiver has that number: no word behind a head is such a head.
use Rattle.std.proofs.Common.{◌≡◌, ℕ, zero, suc, ◌+◌, ◌-◌, ◌<◌, ◌≤◌, List, [], ◌∷◌, ◌++◌, length, map, drop, get_or, refl, ap, sym, ◌∙◌, arith, Bool, true, false, eqb, ◌≢◌, ◌⊎◌, inl, inr, Some}
use Rattle.std.proofs.lemmas.Bool.{cases_lt, eqb-true, eq-eqb}
use Rattle.std.proofs.lemmas.List.{get_or_append_left, get_or_past}
use Rattle.std.proofs.Math.Seq.{get_or-append-add}
use Rattle.ns_world.specs.declared.value.Value.{Value}
use Rattle.ns_world.specs.declared.value.Value.TheVariants.{Nil, True, False, Int, Sym, Kernel, Ref}
use Rattle.ns_world.specs.declared.word.Word.{Word}
use Rattle.ns_world.specs.declared.word.Word.TheVariants.{Nil as NilWord}
use Rattle.ns_world.specs.Cell.{Cell, ObjectCell, ClassCell, BlockCell, EnvironmentCell, ArrayCell, TextCell, FacetCell, MirrorCell, MessageCell, text_words}
use Rattle.ns_world.specs.Heap.{Heap, heap_size, find_cell}
use Rattle.ns_world.specs.Words.{word_of, word_beside, head_of, body_of, words_of, laid_out, packed}
use Rattle.ns_world.specs.Starts.{is_receiver_cell}
use Rattle.ns_world.specs.Receivers.{is_receiver_head}
use Rattle.ns_world.proofs.LaidOut.{length-laid_out}

value_word : (value : Value) → is_receiver_head (word_of value) ≡ false
value_word Nil = refl
value_word True = refl
value_word False = refl
value_word (Int number) = refl
value_word (Sym sel) = refl
value_word (Kernel class) = refl
value_word (Ref at) = refl

word_with : (beside : ℕ) (value : Value) → is_receiver_head (word_beside beside value) ≡ false
word_with beside Nil = refl
word_with beside True = refl
word_with beside False = refl
word_with beside (Int number) = refl
word_with beside (Sym sel) = refl
word_with beside (Kernel class) = refl
word_with beside (Ref at) = refl

value_words : (values : List Value) (k : ℕ) → is_receiver_head (get_or (map word_of values) k NilWord) ≡ false
value_words [] k = refl
value_words (value ∷ values) zero = value_word value
value_words (value ∷ values) (suc k) = value_words values k

byte_words : (count : ℕ) (bytes : List ℕ) (k : ℕ) → is_receiver_head (get_or (packed count bytes) k NilWord) ≡ false
byte_words zero bytes k = refl
byte_words (suc count) bytes zero = refl
byte_words (suc count) bytes (suc k) = byte_words count (drop 8 bytes) k

-- no word behind a head is one
behind : (cell : Cell) (k : ℕ) → is_receiver_head (get_or (body_of cell) k NilWord) ≡ false
behind (ObjectCell class entries) k = value_words entries k
behind (ClassCell decl base encl holder over) zero = value_word encl
behind (ClassCell decl base encl holder over) (suc zero) = value_word holder
behind (ClassCell decl base encl holder over) (suc (suc zero)) = value_word over
behind (ClassCell decl base encl holder over) (suc (suc (suc k))) = refl
behind (BlockCell body env home receiver holder) zero = value_word receiver
behind (BlockCell body env home receiver holder) (suc zero) = word_with holder env
behind (BlockCell body env home receiver holder) (suc (suc k)) = refl
behind (EnvironmentCell parent locals) k = value_words locals k
behind (ArrayCell items) k = value_words items k
behind (TextCell bytes) k = byte_words (text_words (length bytes)) bytes k
behind (FacetCell kind) k = refl
behind (MirrorCell mirrored) zero = value_word mirrored
behind (MirrorCell mirrored) (suc k) = refl
behind (MessageCell sel args) zero = value_word args
behind (MessageCell sel args) (suc zero) = refl
behind (MessageCell sel args) (suc (suc k)) = refl

head_tells : (cell : Cell) → is_receiver_head (head_of cell) ≡ is_receiver_cell (Some cell)
head_tells (ObjectCell class entries) = refl
head_tells (ClassCell decl base encl holder over) = refl
head_tells (BlockCell body env home receiver holder) = refl
head_tells (EnvironmentCell parent locals) = word_with (length locals) parent
head_tells (ArrayCell items) = refl
head_tells (TextCell bytes) = refl
head_tells (FacetCell kind) = refl
head_tells (MirrorCell mirrored) = refl
head_tells (MessageCell sel args) = refl

not_equal : (a b : ℕ) → eqb a b ≡ false → a ≢ b
not_equal a b e is = let same : true ≡ false = sym (eq-eqb a b is) ∙ e in absurd (cc)

-- past the words of the cells before, and past their head
past_head : (before : List Word) (cell : Cell) (at : ℕ) → length before + 1 ≤ at →
    is_receiver_head (get_or (before ++ words_of cell) at NilWord) ≡ false
past_head before cell at past =
    let k = at - length before - 1 in
    ap (λ i. is_receiver_head (get_or (before ++ words_of cell) i NilWord)) (let is : at ≡ length before + suc k = omega (arith, past) in is)
    ∙ (ap is_receiver_head (get_or-append-add before (words_of cell) (suc k) NilWord) ∙ behind cell k)

-- the word of a number tells whether a cell that can be a receiver has that number
pub head_found : (heap : Heap) (at : ℕ) → is_receiver_head (get_or (laid_out heap) at NilWord) ≡ is_receiver_cell (find_cell heap at)
head_found [] at = refl
head_found (cell ∷ earlier) at = chosen (eqb at (heap_size earlier)) refl (cases_lt at (heap_size earlier)) (head_found earlier at)
  where
    chosen : (b : Bool) → eqb at (heap_size earlier) ≡ b → (at < heap_size earlier) ⊎ (heap_size earlier ≤ at)
        → is_receiver_head (get_or (laid_out earlier) at NilWord) ≡ is_receiver_cell (find_cell earlier at)
        → is_receiver_head (get_or (laid_out earlier ++ words_of cell) at NilWord) ≡ is_receiver_cell (find_cell (cell ∷ earlier) at)
    chosen true e side before =
        let is : at ≡ length (laid_out earlier) + 0 = omega (arith, eqb-true at (heap_size earlier) e, length-laid_out earlier) in
        ap (λ i. is_receiver_head (get_or (laid_out earlier ++ words_of cell) i NilWord)) is
        ∙ (ap is_receiver_head (get_or-append-add (laid_out earlier) (words_of cell) 0 NilWord) ∙ (head_tells cell ∙ rw e refl))
    chosen false e (inl below) before =
        ap is_receiver_head (get_or_append_left (laid_out earlier) (words_of cell) NilWord at (omega (arith, below, length-laid_out earlier)))
        ∙ (before ∙ rw e refl)
    chosen false e (inr above) before =
        let past : length (laid_out earlier) + 1 ≤ at = omega (arith, above, not_equal at (heap_size earlier) e, length-laid_out earlier) in
        let none : is_receiver_head (get_or (laid_out earlier) at NilWord) ≡ false =
        ap is_receiver_head (get_or_past (laid_out earlier) at NilWord (omega (arith, past))) in
        past_head (laid_out earlier) cell at past ∙ (sym none ∙ (before ∙ rw e refl))

-- the same of the words in memory
pub receiver_told : (heap : Heap) (words : List Word) (at : ℕ) → laid_out heap ≡ words →
    is_receiver_head (get_or words at NilWord) ≡ is_receiver_cell (find_cell heap at)
receiver_told heap words at laid = ap (λ (ws : List Word). is_receiver_head (get_or ws at NilWord)) (sym laid) ∙ head_found heap at
