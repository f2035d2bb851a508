-- What a change of one cell leaves as it was.
use Rattle.std.proofs.Common.{◌≡◌, ◌≢◌, ℕ, ◌+◌, ◌≤◌, List, [], ◌∷◌, length, refl, ap, sym, ◌∙◌, arith, Option, Some, None, Bool, true, false, cond, eqb, length-set}
use Rattle.std.proofs.lemmas.Bool.{eqb-true, eq-eqb}
use Rattle.ns_world.specs.declared.value.Value.{Value}
use Rattle.ns_world.specs.declared.value.Value.TheVariants.{Nil, True, False, Int, Sym, Kernel, Ref}
use Rattle.ns_world.specs.Cell.{Cell, ObjectCell, ClassCell, BlockCell, EnvironmentCell, ArrayCell, TextCell, FacetCell, MirrorCell, MessageCell, cell_size, text_words, with_word, with_byte}
use Rattle.ns_world.specs.Heap.{Heap, heap_size, find_cell, set_cell, is_class, is_ordered, chain_of, chain_at, chain_above, change_cell, write_word, write_byte}
use Rattle.ns_world.specs.lemmas.Replacing.{set_cell_stays}

-- Numbers that differ aren't told to be equal.
pub differs : (m n : ℕ) → m ≢ n → eqb m n ≡ false
differs m n h = tested (eqb m n) refl
  where
    tested : (b : Bool) → eqb m n ≡ b → eqb m n ≡ false
    tested true e = absurd (h (eqb-true m n e))
    tested false e = e

-- the newest cell has the number of cells used before
pub found_new : (heap : Heap) (cell : Cell) → find_cell (cell ∷ heap) (heap_size heap) ≡ Some cell
found_new heap cell = rw (eq-eqb (heap_size heap) (heap_size heap) refl) refl

-- any other number is looked for among the others
pub found_old : (heap : Heap) (cell : Cell) (number : ℕ) → number ≢ heap_size heap → find_cell (cell ∷ heap) number ≡ find_cell heap number
found_old heap cell number h = rw (differs number (heap_size heap) h) refl

-- and any other chain is as it was
pub chain_old : (heap : Heap) (cell : Cell) (class : ℕ) → class ≢ heap_size heap → chain_of (cell ∷ heap) class ≡ chain_of heap class
chain_old heap cell class h = rw (differs class (heap_size heap) h) refl

above_short : (over : Value) (chain : ℕ → List ℕ) (most : ℕ) → ((n : ℕ) → length (chain n) ≤ most) → length (chain_above over chain) ≤ most
above_short (Ref class) chain most h = h class
above_short Nil chain most h = omega arith
above_short True chain most h = omega arith
above_short False chain most h = omega arith
above_short (Int number) chain most h = omega arith
above_short (Sym sel) chain most h = omega arith
above_short (Kernel class) chain most h = omega arith

chain_at_short : (cell : Cell) (class : ℕ) (chain : ℕ → List ℕ) (most : ℕ) → ((n : ℕ) → length (chain n) ≤ most) →
    length (chain_at cell class chain) ≤ most + cell_size cell
chain_at_short (ClassCell decl base encl holder over) class chain most h = omega (arith, above_short over chain most h)
chain_at_short (ObjectCell class' entries) class chain most h = omega arith
chain_at_short (BlockCell body env home receiver holder) class chain most h = omega arith
chain_at_short (EnvironmentCell parent locals) class chain most h = omega arith
chain_at_short (ArrayCell items) class chain most h = omega arith
chain_at_short (TextCell bytes) class chain most h = omega arith
chain_at_short (FacetCell kind) class chain most h = omega arith
chain_at_short (MirrorCell mirrored) class chain most h = omega arith
chain_at_short (MessageCell sel args) class chain most h = omega arith

-- a chain is no longer than the cells used
pub chain_no_longer : (heap : Heap) (class : ℕ) → length (chain_of heap class) ≤ heap_size heap
chain_no_longer [] class = omega arith
chain_no_longer (cell ∷ earlier) class =
    tested (eqb class (heap_size earlier)) (chain_at_short cell class (chain_of earlier) (heap_size earlier) (λ n. chain_no_longer earlier n)) (chain_no_longer earlier class)
  where
    tested : (b : Bool) → length (chain_at cell class (chain_of earlier)) ≤ heap_size earlier + cell_size cell → length (chain_of earlier class) ≤ heap_size earlier → length (cond b (chain_at cell class (chain_of earlier)) (chain_of earlier class)) ≤ heap_size earlier + cell_size cell
    tested true h k = h
    tested false h k = omega arith

-- A cell that is set to one as large leaves the heap as large.
pub set_size : (heap : Heap) (at : ℕ) (old new : Cell) → find_cell heap at ≡ Some old → cell_size new ≡ cell_size old →
    heap_size (set_cell heap at new) ≡ heap_size heap
set_size [] at old new e s = refl
set_size (cell ∷ earlier) at old new e s = tested (eqb at (heap_size earlier)) e (set_size earlier at old new)
  where
    tested : (b : Bool) → cond b (Some cell) (find_cell earlier at) ≡ Some old → (find_cell earlier at ≡ Some old → cell_size new ≡ cell_size old → heap_size (set_cell earlier at new) ≡ heap_size earlier) → heap_size (cond b (new ∷ earlier) (cell ∷ set_cell earlier at new)) ≡ heap_size earlier + cell_size cell
    tested true e below = let is : cell ≡ old = cc in omega (arith, s, ap cell_size is)
    tested false e below = omega (arith, below e s)

-- a cell that is replaced is the only one that changes
set_other : (heap : Heap) (at : ℕ) (old new : Cell) (number : ℕ) → find_cell heap at ≡ Some old → cell_size new ≡ cell_size old →
    number ≢ at → find_cell (set_cell heap at new) number ≡ find_cell heap number
set_other [] at old new number e s h = refl
set_other (cell ∷ earlier) at old new number e s h =
    tested (eqb at (heap_size earlier)) refl e (λ f. set_other earlier at old new number f s h) (λ f. set_size earlier at old new f s)
  where
    tested : (b : Bool) → eqb at (heap_size earlier) ≡ b → cond b (Some cell) (find_cell earlier at) ≡ Some old → (find_cell earlier at ≡ Some old → find_cell (set_cell earlier at new) number ≡ find_cell earlier number) → (find_cell earlier at ≡ Some old → heap_size (set_cell earlier at new) ≡ heap_size earlier) → find_cell (cond b (new ∷ earlier) (cell ∷ set_cell earlier at new)) number ≡ find_cell (cell ∷ earlier) number
    tested true t e below size =
        let other : eqb number (heap_size earlier) ≡ false = differs number (heap_size earlier) (λ q. h (q ∙ sym (eqb-true at (heap_size earlier) t))) in
        rw other refl
    tested false t e below size =
        ap (λ n. cond (eqb number n) (Some cell) (find_cell (set_cell earlier at new) number)) (size e)
        ∙ ap (λ o. cond (eqb number (heap_size earlier)) (Some cell) o) (below e)

-- a cell that is replaced is found anew
pub set_here : (heap : Heap) (at : ℕ) (old new : Cell) → find_cell heap at ≡ Some old → cell_size new ≡ cell_size old →
    find_cell (set_cell heap at new) at ≡ Some new
set_here [] at old new e s = absurd (cc)
set_here (cell ∷ earlier) at old new e s =
    tested (eqb at (heap_size earlier)) refl e (λ f. set_here earlier at old new f s) (λ f. set_size earlier at old new f s)
  where
    tested : (b : Bool) → eqb at (heap_size earlier) ≡ b → cond b (Some cell) (find_cell earlier at) ≡ Some old → (find_cell earlier at ≡ Some old → find_cell (set_cell earlier at new) at ≡ Some new) → (find_cell earlier at ≡ Some old → heap_size (set_cell earlier at new) ≡ heap_size earlier) → find_cell (cond b (new ∷ earlier) (cell ∷ set_cell earlier at new)) at ≡ Some new
    tested true t e below size = rw t refl
    tested false t e below size =
        ap (λ n. cond (eqb at n) (Some cell) (find_cell (set_cell earlier at new) at)) (size e) ∙ rw t (below e)

-- A change of a cell keeps its size, and classes as they are.
pub record ChangesPlainly (change : Cell → Cell) : Type 0 where
  pub size : (cell : Cell) → cell_size (change cell) ≡ cell_size cell
  pub class : (cell : Cell) → is_class (Some cell) ≡ true → change cell ≡ cell
  pub plain : (cell : Cell) → is_class (Some cell) ≡ false → is_class (Some (change cell)) ≡ false

-- What such a change leaves.
pub record ChangeLeaves (before after : Heap) (at : ℕ) : Type 0 where
  pub others : (number : ℕ) → number ≢ at → find_cell after number ≡ find_cell before number
  pub classes : (number : ℕ) → is_class (find_cell before number) ≡ true → find_cell after number ≡ find_cell before number
  pub chains : (class : ℕ) → chain_of after class ≡ chain_of before class
  pub size : heap_size after ≡ heap_size before
  pub order : is_ordered after ≡ is_ordered before

set_same : (heap : Heap) (at : ℕ) (cell : Cell) → find_cell heap at ≡ Some cell → set_cell heap at cell ≡ heap
set_same [] at cell e = refl
set_same (first ∷ earlier) at cell e = tested (eqb at (heap_size earlier)) e (set_same earlier at cell)
  where
    tested : (b : Bool) → cond b (Some first) (find_cell earlier at) ≡ Some cell → (find_cell earlier at ≡ Some cell → set_cell earlier at cell ≡ earlier) → cond b (cell ∷ earlier) (first ∷ set_cell earlier at cell) ≡ first ∷ earlier
    tested true e below = ap (λ c. c ∷ earlier) (let is : cell ≡ first = cc in is)
    tested false e below = ap (λ cs. first ∷ cs) (below e)

pub changing_leaves : (heap : Heap) (at : ℕ) (change : Cell → Cell) → ChangesPlainly change →
    ChangeLeaves heap (change_cell heap at change) at
changing_leaves heap at change plainly = found (find_cell heap at) refl
  where
    unchanged : change_cell heap at change ≡ heap → ChangeLeaves heap (change_cell heap at change) at
    unchanged e = record { others = λ n h. ap (λ c. find_cell c n) e; classes = λ n h. ap (λ c. find_cell c n) e; chains = λ n. ap (λ c. chain_of c n) e; size = ap heap_size e; order = ap is_ordered e }

    plain_one : (cell : Cell) → find_cell heap at ≡ Some cell → is_class (Some cell) ≡ false → change_cell heap at change ≡ set_cell heap at (change cell) → ChangeLeaves heap (change_cell heap at change) at
    plain_one cell e p is =
        let stays = set_cell_stays heap at cell (change cell) e (record { size_stays = plainly.size cell; old_plain = p; new_plain = plainly.plain cell p }) in
        let others : (n : ℕ) → n ≢ at → find_cell (change_cell heap at change) n ≡ find_cell heap n = λ n h. ap (λ c. find_cell c n) is ∙ set_other heap at cell (change cell) n e (plainly.size cell) h in
        record {
          others = others;
          classes = λ n h. others n (λ q. let t : is_class (Some cell) ≡ true = ap is_class (sym e) ∙ (ap (λ k. is_class (find_cell heap k)) (sym q) ∙ h) in absurd (cc));
          chains = λ n. ap (λ c. chain_of c n) is ∙ stays.chains_stay n;
          size = ap heap_size is ∙ stays.size_stays;
          order = ap is_ordered is ∙ stays.order_stays;
        }

    one : (cell : Cell) (b : Bool) → is_class (Some cell) ≡ b → find_cell heap at ≡ Some cell → change_cell heap at change ≡ set_cell heap at (change cell) → ChangeLeaves heap (change_cell heap at change) at
    one cell true t e is = unchanged (is ∙ (ap (set_cell heap at) (plainly.class cell t) ∙ set_same heap at cell e))
    one cell false t e is = plain_one cell e t is

    found : (o : Option Cell) → find_cell heap at ≡ o → ChangeLeaves heap (change_cell heap at change) at
    found None e = unchanged (rw e refl)
    found (Some cell) e = one cell (is_class (Some cell)) refl e (rw e refl)

word_size : (word : ℕ) (value : Value) (cell : Cell) → cell_size (with_word cell word value) ≡ cell_size cell
word_size word value (ObjectCell class entries) = ap (λ n. 1 + n) (length-set entries word value)
word_size word value (ClassCell decl base encl holder over) = refl
word_size word value (BlockCell body env home receiver holder) = refl
word_size word value (EnvironmentCell parent locals) = ap (λ n. 1 + n) (length-set locals word value)
word_size word value (ArrayCell items) = ap (λ n. 1 + n) (length-set items word value)
word_size word value (TextCell bytes) = refl
word_size word value (FacetCell kind) = refl
word_size word value (MirrorCell mirrored) = refl
word_size word value (MessageCell sel args) = refl

word_class : (word : ℕ) (value : Value) (cell : Cell) → is_class (Some cell) ≡ true → with_word cell word value ≡ cell
word_class word value (ClassCell decl base encl holder over) e = refl
word_class word value (ObjectCell class entries) e = absurd (cc)
word_class word value (BlockCell body env home receiver holder) e = absurd (cc)
word_class word value (EnvironmentCell parent locals) e = absurd (cc)
word_class word value (ArrayCell items) e = absurd (cc)
word_class word value (TextCell bytes) e = absurd (cc)
word_class word value (FacetCell kind) e = absurd (cc)
word_class word value (MirrorCell mirrored) e = absurd (cc)
word_class word value (MessageCell sel args) e = absurd (cc)

word_plain : (word : ℕ) (value : Value) (cell : Cell) → is_class (Some cell) ≡ false → is_class (Some (with_word cell word value)) ≡ false
word_plain word value (ClassCell decl base encl holder over) e = absurd (cc)
word_plain word value (ObjectCell class entries) e = refl
word_plain word value (BlockCell body env home receiver holder) e = refl
word_plain word value (EnvironmentCell parent locals) e = refl
word_plain word value (ArrayCell items) e = refl
word_plain word value (TextCell bytes) e = refl
word_plain word value (FacetCell kind) e = refl
word_plain word value (MirrorCell mirrored) e = refl
word_plain word value (MessageCell sel args) e = refl

-- To write a word changes a cell plainly.
pub word_plainly : (word : ℕ) (value : Value) → ChangesPlainly (λ cell. with_word cell word value)
word_plainly word value = record { size = word_size word value; class = word_class word value; plain = word_plain word value }

byte_size : (place byte : ℕ) (cell : Cell) → cell_size (with_byte cell place byte) ≡ cell_size cell
byte_size place byte (ObjectCell class entries) = refl
byte_size place byte (ClassCell decl base encl holder over) = refl
byte_size place byte (BlockCell body env home receiver holder) = refl
byte_size place byte (EnvironmentCell parent locals) = refl
byte_size place byte (ArrayCell items) = refl
byte_size place byte (TextCell bytes) = ap (λ n. 1 + text_words n) (length-set bytes place byte)
byte_size place byte (FacetCell kind) = refl
byte_size place byte (MirrorCell mirrored) = refl
byte_size place byte (MessageCell sel args) = refl

byte_class : (place byte : ℕ) (cell : Cell) → is_class (Some cell) ≡ true → with_byte cell place byte ≡ cell
byte_class place byte (ClassCell decl base encl holder over) e = refl
byte_class place byte (ObjectCell class entries) e = absurd (cc)
byte_class place byte (BlockCell body env home receiver holder) e = absurd (cc)
byte_class place byte (EnvironmentCell parent locals) e = absurd (cc)
byte_class place byte (ArrayCell items) e = absurd (cc)
byte_class place byte (TextCell bytes) e = absurd (cc)
byte_class place byte (FacetCell kind) e = absurd (cc)
byte_class place byte (MirrorCell mirrored) e = absurd (cc)
byte_class place byte (MessageCell sel args) e = absurd (cc)

byte_plain : (place byte : ℕ) (cell : Cell) → is_class (Some cell) ≡ false → is_class (Some (with_byte cell place byte)) ≡ false
byte_plain place byte (ClassCell decl base encl holder over) e = absurd (cc)
byte_plain place byte (ObjectCell class entries) e = refl
byte_plain place byte (BlockCell body env home receiver holder) e = refl
byte_plain place byte (EnvironmentCell parent locals) e = refl
byte_plain place byte (ArrayCell items) e = refl
byte_plain place byte (TextCell bytes) e = refl
byte_plain place byte (FacetCell kind) e = refl
byte_plain place byte (MirrorCell mirrored) e = refl
byte_plain place byte (MessageCell sel args) e = refl

-- To write a byte changes a cell plainly.
pub byte_plainly : (place byte : ℕ) → ChangesPlainly (λ cell. with_byte cell place byte)
byte_plainly place byte = record { size = byte_size place byte; class = byte_class place byte; plain = byte_plain place byte }

-- writing a word leaves all else
pub writing_leaves : (heap : Heap) (at word : ℕ) (value : Value) → ChangeLeaves heap (write_word heap at word value) at
writing_leaves heap at word value = changing_leaves heap at (λ cell. with_word cell word value) (word_plainly word value)

-- writing a byte leaves all else
pub byte_leaves : (heap : Heap) (at place byte : ℕ) → ChangeLeaves heap (write_byte heap at place byte) at
byte_leaves heap at place byte = changing_leaves heap at (λ cell. with_byte cell place byte) (byte_plainly place byte)
