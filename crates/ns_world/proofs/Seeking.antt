-- Walking from cell to cell finds the first that is sought.
use Rattle.std.proofs.Common.{◌≡◌, ℕ, ◌+◌, ◌<◌, ◌≤◌, List, [], ◌∷◌, ◌++◌, length, drop, get_or, reverse, refl, ap, sym, ◌∙◌, subst, arith, Option, Some, None, Bool, true, false, cond, length-drop, length-append}
use Rattle.std.proofs.lemmas.List.{get_or-drop, reverse-append, drop-drop}
use Rattle.std.proofs.Math.Seq.{drop-append_seam}
use Rattle.ns_world.specs.declared.value.Value.{Value}
use Rattle.ns_world.specs.declared.value.Value.TheVariants.{Nil, True, False, Int, Sym, Kernel, Ref}
use Rattle.ns_world.specs.declared.word.Word.{Word}
use Rattle.ns_world.specs.declared.word.Word.TheVariants.{Nil as NilWord}
use Rattle.ns_world.specs.declared.seek.Sought.{Sought}
use Rattle.ns_world.specs.declared.seek.Sought.TheVariants.{Facet, Top}
use Rattle.ns_world.specs.Cell.{Cell, ObjectCell, ClassCell, BlockCell, EnvironmentCell, ArrayCell, TextCell, FacetCell, MirrorCell, MessageCell, cell_size}
use Rattle.ns_world.specs.Heap.{Heap, heap_size}
use Rattle.ns_world.specs.Words.{word_of, word_beside, head_of, body_of, words_of, words_behind, laid_out}
use Rattle.ns_world.specs.Seek.{is_sought, is_sought_at, is_nil, is_nil_at, earlier_or, first_such}
use Rattle.ns_world.proofs.LaidOut.{flat, laid_out-flat, words_behind-head, length-words}

-- the number of the first that passes, where the first of the list has that number
pub first_from : (Cell → Bool) → ℕ → List Cell → Option ℕ
first_from test n [] = None
first_from test n (cell ∷ cells) = cond (test cell) (Some n) (first_from test (n + cell_size cell) cells)

sizes : List Cell → ℕ
sizes [] = 0
sizes (cell ∷ cells) = cell_size cell + sizes cells

first_from-append : (test : Cell → Bool) (n : ℕ) (cells : List Cell) (cell : Cell) →
    first_from test n (cells ++ cell ∷ []) ≡ earlier_or (first_from test n cells) (cond (test cell) (Some (n + sizes cells)) None)
unfolding first_from sizes
first_from-append test n [] cell = ap (λ m. cond (test cell) (Some m) None) (omega arith)
first_from-append test n (first ∷ cells) cell = tested (test first) (first_from-append test (n + cell_size first) cells cell)
  where
    tested : (b : Bool) → first_from test (n + cell_size first) (cells ++ cell ∷ []) ≡ earlier_or (first_from test (n + cell_size first) cells) (cond (test cell) (Some (n + cell_size first + sizes cells)) None) → cond b (Some n) (first_from test (n + cell_size first) (cells ++ cell ∷ [])) ≡ earlier_or (cond b (Some n) (first_from test (n + cell_size first) cells)) (cond (test cell) (Some (n + (cell_size first + sizes cells))) None)
    tested true e = refl
    tested false e = e ∙ ap (λ m. earlier_or (first_from test (n + cell_size first) cells) (cond (test cell) (Some m) None)) (omega arith)

sizes-append : (cells : List Cell) (cell : Cell) → sizes (cells ++ cell ∷ []) ≡ sizes cells + cell_size cell
unfolding sizes
sizes-append [] cell = omega arith
sizes-append (first ∷ cells) cell = omega (arith, sizes-append cells cell)

sizes-reverse : (heap : Heap) → sizes (reverse heap) ≡ heap_size heap
unfolding sizes
sizes-reverse [] = refl
sizes-reverse (cell ∷ earlier) =
    ap sizes (reverse-append (cell ∷ []) earlier) ∙ (sizes-append (reverse earlier) cell ∙ ap (λ n. n + cell_size cell) (sizes-reverse earlier))

-- the oldest first or the newest first
pub first_from-reverse : (test : Cell → Bool) (heap : Heap) → first_from test 0 (reverse heap) ≡ first_such test heap
unfolding first_from
first_from-reverse test [] = refl
first_from-reverse test (cell ∷ earlier) =
    let size : 0 + sizes (reverse earlier) ≡ heap_size earlier = omega (arith, sizes-reverse earlier) in
    ap (first_from test 0) (reverse-append (cell ∷ []) earlier)
    ∙ (first_from-append test 0 (reverse earlier) cell
    ∙ (ap (λ m. earlier_or (first_from test 0 (reverse earlier)) (cond (test cell) (Some m) None)) size
    ∙ ap (λ o. earlier_or o (cond (test cell) (Some (heap_size earlier)) None)) (first_from-reverse test earlier)))

nil_at : (value : Value) → is_nil_at (word_of value) ≡ is_nil value
nil_at Nil = refl
nil_at True = refl
nil_at False = refl
nil_at (Int number) = refl
nil_at (Sym sel) = refl
nil_at (Kernel class) = refl
nil_at (Ref at) = refl

not_parent : (sought : Sought) (n : ℕ) (value : Value) (next : Word) → is_sought_at sought (word_beside n value) next ≡ false
not_parent (Facet kind) n Nil next = refl
not_parent (Facet kind) n True next = refl
not_parent (Facet kind) n False next = refl
not_parent (Facet kind) n (Int number) next = refl
not_parent (Facet kind) n (Sym sel) next = refl
not_parent (Facet kind) n (Kernel class) next = refl
not_parent (Facet kind) n (Ref at) next = refl
not_parent (Top decl) n Nil next = refl
not_parent (Top decl) n True next = refl
not_parent (Top decl) n False next = refl
not_parent (Top decl) n (Int number) next = refl
not_parent (Top decl) n (Sym sel) next = refl
not_parent (Top decl) n (Kernel class) next = refl
not_parent (Top decl) n (Ref at) next = refl

-- the words of a cell tell whether it is sought
sought_cell : (sought : Sought) (cell : Cell) (rest : List Word) →
    is_sought_at sought (head_of cell) (get_or (words_of cell ++ rest) 1 NilWord) ≡ is_sought sought cell
sought_cell (Facet kind) (ObjectCell class entries) rest = refl
sought_cell (Facet kind) (ClassCell decl base encl holder over) rest = refl
sought_cell (Facet kind) (BlockCell body env home receiver holder) rest = refl
sought_cell (Facet kind) (EnvironmentCell parent locals) rest =
    not_parent (Facet kind) (length locals) parent (get_or (words_of (EnvironmentCell parent locals) ++ rest) 1 NilWord)
sought_cell (Facet kind) (ArrayCell items) rest = refl
sought_cell (Facet kind) (TextCell bytes) rest = refl
sought_cell (Facet kind) (FacetCell other) rest = refl
sought_cell (Facet kind) (MirrorCell mirrored) rest = refl
sought_cell (Facet kind) (MessageCell sel args) rest = refl
sought_cell (Top decl) (ObjectCell class entries) rest = refl
sought_cell (Top decl) (ClassCell other base encl holder over) rest = rw (nil_at encl) refl
sought_cell (Top decl) (BlockCell body env home receiver holder) rest = refl
sought_cell (Top decl) (EnvironmentCell parent locals) rest =
    not_parent (Top decl) (length locals) parent (get_or (words_of (EnvironmentCell parent locals) ++ rest) 1 NilWord)
sought_cell (Top decl) (ArrayCell items) rest = refl
sought_cell (Top decl) (TextCell bytes) rest = refl
sought_cell (Top decl) (FacetCell other) rest = refl
sought_cell (Top decl) (MirrorCell mirrored) rest = refl
sought_cell (Top decl) (MessageCell sel args) rest = refl

-- The walk stands at a cell's head, and what is left still gives what the whole gives.
pub record Walks (sought : Sought) (words : List Word) (whole : Option ℕ) (at : ℕ) : Type 0 where
  pub left : List Cell
  pub is : flat left ≡ drop at words
  pub gives : first_from (is_sought sought) at left ≡ whole

pub walk_starts : (sought : Sought) (heap : Heap) (words : List Word) → laid_out heap ≡ words →
    Walks sought words (first_such (is_sought sought) heap) 0
walk_starts sought heap words laid =
    record { left = reverse heap; is = sym (laid_out-flat heap) ∙ laid; gives = first_from-reverse (is_sought sought) heap }

past : (cell rest words : List Word) (at next : ℕ) → next ≡ at + length cell → cell ++ rest ≡ drop at words → rest ≡ drop next words
past cell rest words at next n e =
    sym (drop-append_seam cell rest) ∙ (ap (drop (length cell)) e ∙ (drop-drop (length cell) at words ∙ ap (λ i. drop i words) (omega arith)))

-- one step of the walk, from a cell's head to the next
pub record Step (sought : Sought) (words : List Word) (whole : Option ℕ) (at : ℕ) : Type 0 where
  pub here : is_sought_at sought (get_or words at NilWord) (get_or words (at + 1) NilWord) ≡ true → whole ≡ Some at
  pub next : is_sought_at sought (get_or words at NilWord) (get_or words (at + 1) NilWord) ≡ false → Walks sought words whole (at + 1 + words_behind (get_or words at NilWord))
  pub inside : at + 1 + words_behind (get_or words at NilWord) ≤ length words

pub walk_step : (sought : Sought) (words : List Word) (whole : Option ℕ) (at : ℕ) → at < length words → Walks sought words whole at →
    Step sought words whole at
unfolding flat first_from
walk_step sought words whole at h w = stepped w.left w.is w.gives
  where
    stepped : (left : List Cell) → flat left ≡ drop at words → first_from (is_sought sought) at left ≡ whole → Step sought words whole at
    stepped [] e g = absurd (omega (arith, ap length e, length-drop at words))
    stepped (cell ∷ left) e g =
        let head : get_or words at NilWord ≡ head_of cell =
        ap (λ i. get_or words i NilWord) (omega arith) ∙ (sym (get_or-drop at words 0 NilWord) ∙ ap (λ ws. get_or ws 0 NilWord) (sym e)) in
        let next : get_or words (at + 1) NilWord ≡ get_or (words_of cell ++ flat left) 1 NilWord =
        sym (get_or-drop at words 1 NilWord) ∙ ap (λ ws. get_or ws 1 NilWord) (sym e) in
        let told : is_sought_at sought (get_or words at NilWord) (get_or words (at + 1) NilWord) ≡ is_sought sought cell =
        ap (λ w. is_sought_at sought w (get_or words (at + 1) NilWord)) head ∙ (ap (is_sought_at sought (head_of cell)) next ∙ sought_cell sought cell (flat left)) in
        let behind : words_behind (get_or words at NilWord) ≡ length (body_of cell) = ap words_behind head ∙ words_behind-head cell in
        let size : at + 1 + words_behind (get_or words at NilWord) ≡ at + cell_size cell = omega (arith, behind, length-words cell) in
        record {
          here = λ t. sym g ∙ ap (λ b. cond b (Some at) (first_from (is_sought sought) (at + cell_size cell) left)) (sym told ∙ t);
          next = λ f. record {
            left = left;
            is = past (words_of cell) (flat left) words at (at + 1 + words_behind (get_or words at NilWord)) (omega (arith, size, length-words cell)) e;
            gives = ap (λ n. first_from (is_sought sought) n left) size ∙ (sym (ap (λ b. cond b (Some at) (first_from (is_sought sought) (at + cell_size cell) left)) (sym told ∙ f)) ∙ g);
          };
          inside = omega (arith, size, length-words cell, ap length e, length-drop at words, length-append (words_of cell) (flat left));
        }

-- What the words at a head tell: a cell that is sought, or where the walk goes on.
pub record Told (sought : Sought) (words : List Word) (whole : Option ℕ) (at behind : ℕ) (found : Bool) : Type 0 where
  pub here : found ≡ true → Some at ≡ whole
  pub next : found ≡ false → Walks sought words whole (at + (1 + behind))
  pub inside : at + (1 + behind) ≤ length words

pub walk_told : (sought : Sought) (words : List Word) (whole : Option ℕ) (at behind : ℕ) (head next : Word) (found : Bool) →
    at < length words → Walks sought words whole at → head ≡ get_or words at NilWord → next ≡ get_or words (at + 1) NilWord →
    found ≡ is_sought_at sought head next → behind ≡ words_behind head → Told sought words whole at behind found
walk_told sought words whole at behind head next found h w eh en ef eb =
    let s = walk_step sought words whole at h w in
    let test : is_sought_at sought (get_or words at NilWord) (get_or words (at + 1) NilWord) ≡ found = cc in
    let on : at + 1 + words_behind (get_or words at NilWord) ≡ at + (1 + behind) = omega (arith, eb ∙ ap words_behind eh) in
    record {
      here = λ t. sym (s.here (test ∙ t));
      next = λ f. let P : ℕ → Type 0 = λ n. Walks sought words whole n in subst P on (s.next (test ∙ f));
      inside = omega (arith, on, s.inside);
    }

first_from_above : (test : Cell → Bool) (n : ℕ) (cells : List Cell) (number : ℕ) → first_from test n cells ≡ Some number → n ≤ number
unfolding first_from
first_from_above test n [] number e = absurd (cc)
first_from_above test n (cell ∷ cells) number e = tested (test cell) e (first_from_above test (n + cell_size cell) cells number)
  where
    tested : (b : Bool) → cond b (Some n) (first_from test (n + cell_size cell) cells) ≡ Some number → (first_from test (n + cell_size cell) cells ≡ Some number → n + cell_size cell ≤ number) → n ≤ number
    tested true e below = let is : n ≡ number = cc in omega (arith, is)
    tested false e below = omega (arith, below e)

-- a walk that has come to the bound has passed each cell that is sought
pub walk_passes : (sought : Sought) (words : List Word) (whole : Option ℕ) (at bound : ℕ) → bound ≤ at →
    ((number : ℕ) → whole ≡ Some number → number < bound) → Walks sought words whole at → whole ≡ None
walk_passes sought words whole at bound h below w = found whole refl
  where
    found : (o : Option ℕ) → whole ≡ o → whole ≡ None
    found None e = e
    found (Some number) e = absurd (omega (arith, h, below number e, first_from_above (is_sought sought) at w.left number (w.gives ∙ e)))
