-- From a cell to the next.
use Rattle.std.proofs.Common.{◌≡◌, ℕ, ◌+◌, ◌<◌, ◌≤◌, List, [], ◌∷◌, length, get_or, refl, ap, sym, ◌∙◌, subst, arith, Option, Some, None, IsSome, Bool, true, false, cond, eqb, ◌⊎◌, inl, inr}
use Rattle.std.proofs.lemmas.Bool.{eqb-true, eq-eqb, cases_lt}
use Rattle.ns_world.specs.declared.word.Word.{Word}
use Rattle.ns_world.specs.Cell.{Cell, cell_size}
use Rattle.ns_world.specs.Heap.{Heap, heap_size, find_cell, next_number}
use Rattle.ns_world.specs.Words.{head_of, laid_out, words_behind}
use Rattle.ns_world.specs.laws.Chains.{size_above}
use Rattle.ns_world.proofs.LaidOut.{words_behind-head, length-words, length-laid_out}
use Rattle.ns_world.specs.laws.Firsts.{found_past}
use Rattle.ns_world.specs.laws.Standing.{stands-within}
use Rattle.ns_world.proofs.Standing.{word_of_cell}

-- What the first word of a live cell tells of the next: where it stands.
pub record ReadsNext (heap : Heap) (words : List Word) (n : ℕ) : Type 0 where
  pub inside : n < length words
  pub next : (d : Word) → n + 1 + words_behind (get_or words n d) ≡ next_number heap n
  pub within : next_number heap n ≤ length words

pub reads_next : (heap : Heap) (words : List Word) (n : ℕ) → laid_out heap ≡ words → IsSome (find_cell heap n) → ReadsNext heap words n
reads_next heap words n laid h = found (find_cell heap n) refl h
  where
    found : (o : Option Cell) → find_cell heap n ≡ o → IsSome o → ReadsNext heap words n
    found None e s = absurd (cc)
    found (Some cell) e s =
        let above : 1 ≤ cell_size cell = size_above cell in
        let below : n + cell_size cell ≤ length words = omega (arith, stands-within heap n cell e, length-laid_out heap, ap length laid) in
        let is : next_number heap n ≡ n + cell_size cell = rw e refl in
        record {
          inside = omega (arith, above, below);
          next = λ d.
              let head : get_or words n d ≡ head_of cell =
              ap (λ ws. get_or ws n d) (sym laid) ∙ (ap (λ i. get_or (laid_out heap) i d) (omega arith) ∙ word_of_cell heap n cell 0 d e (omega (arith, above))) in
              omega (arith, ap words_behind head, words_behind-head cell, length-words cell, is);
          within = omega (arith, below, is);
        }

-- what is at most a number and isn't it is below it
strictly : (a b : ℕ) → a ≤ b → eqb a b ≡ false → a < b
strictly a b h f = by (cases_lt a b)
  where
    by : (a < b) ⊎ (b ≤ a) → a < b
    by (inl below) = below
    by (inr above) =
        let q : a ≡ b = omega (arith, h, above) in
        let t : eqb a b ≡ true = eq-eqb a b q in
        absurd (cc)

-- the first cell has the number 0
pub first_stands : (heap : Heap) → 0 < heap_size heap → IsSome (find_cell heap 0)
first_stands [] h = absurd (omega arith)
first_stands (cell ∷ earlier) h = tested (eqb 0 (heap_size earlier)) refl (first_stands earlier)
  where
    tested : (b : Bool) → eqb 0 (heap_size earlier) ≡ b → (0 < heap_size earlier → IsSome (find_cell earlier 0)) → IsSome (cond b (Some cell) (find_cell earlier 0))
    tested true t below = refl
    tested false t below = below (strictly 0 (heap_size earlier) (omega arith) t)

next_cell : (heap : Heap) (n : ℕ) (cell : Cell) → find_cell heap n ≡ Some cell → n + cell_size cell < heap_size heap →
    IsSome (find_cell heap (n + cell_size cell))
next_cell [] n cell e h = absurd (cc)
next_cell (first ∷ earlier) n cell e h = tested (eqb n (heap_size earlier)) refl e (next_cell earlier n cell)
  where
    tested : (b : Bool) → eqb n (heap_size earlier) ≡ b → cond b (Some first) (find_cell earlier n) ≡ Some cell → (find_cell earlier n ≡ Some cell → n + cell_size cell < heap_size earlier → IsSome (find_cell earlier (n + cell_size cell))) → IsSome (find_cell (first ∷ earlier) (n + cell_size cell))
    tested true t e below =
        let same : first ≡ cell = cc in
        absurd (omega (arith, eqb-true n (heap_size earlier) t, ap cell_size same, h))
    tested false t e below = last (eqb (n + cell_size cell) (heap_size earlier)) refl
      where
        last : (b : Bool) → eqb (n + cell_size cell) (heap_size earlier) ≡ b → IsSome (cond b (Some first) (find_cell earlier (n + cell_size cell)))
        last true u = refl
        last false u = below e (strictly (n + cell_size cell) (heap_size earlier) (stands-within earlier n cell e) u)

-- behind a cell stands the next, where there is one
pub next_stands : (heap : Heap) (n : ℕ) → IsSome (find_cell heap n) → next_number heap n < heap_size heap →
    IsSome (find_cell heap (next_number heap n))
next_stands heap n s h = found (find_cell heap n) refl s
  where
    found : (o : Option Cell) → find_cell heap n ≡ o → IsSome o → IsSome (find_cell heap (next_number heap n))
    found None e s = absurd (cc)
    found (Some cell) e s =
        let is : n + cell_size cell ≡ next_number heap n = rw e refl in
        subst (λ k. IsSome (find_cell heap k)) is (next_cell heap n cell e (omega (arith, is, h)))

between : (heap : Heap) (n k : ℕ) (cell : Cell) → find_cell heap n ≡ Some cell → n < k → k < n + cell_size cell → find_cell heap k ≡ None
between [] n k cell e l h = refl
between (first ∷ earlier) n k cell e l h = tested (eqb n (heap_size earlier)) refl e (between earlier n k cell)
  where
    tested : (b : Bool) → eqb n (heap_size earlier) ≡ b → cond b (Some first) (find_cell earlier n) ≡ Some cell → (find_cell earlier n ≡ Some cell → n < k → k < n + cell_size cell → find_cell earlier k ≡ None) → find_cell (first ∷ earlier) k ≡ None
    tested true t e below =
        last (eqb k (heap_size earlier)) refl
      where
        last : (b : Bool) → eqb k (heap_size earlier) ≡ b → cond b (Some first) (find_cell earlier k) ≡ None
        last true u = absurd (omega (arith, eqb-true k (heap_size earlier) u, eqb-true n (heap_size earlier) t, l))
        last false u = found_past earlier k (omega (arith, eqb-true n (heap_size earlier) t, l))
    tested false t e below = last (eqb k (heap_size earlier)) refl
      where
        last : (b : Bool) → eqb k (heap_size earlier) ≡ b → cond b (Some first) (find_cell earlier k) ≡ None
        last true u = absurd (omega (arith, eqb-true k (heap_size earlier) u, stands-within earlier n cell e, h))
        last false u = below e l h

-- between a cell and the next stands none
pub none_between : (heap : Heap) (n k : ℕ) → IsSome (find_cell heap n) → n < k → k < next_number heap n → find_cell heap k ≡ None
none_between heap n k s l h = found (find_cell heap n) refl s
  where
    found : (o : Option Cell) → find_cell heap n ≡ o → IsSome o → find_cell heap k ≡ None
    found None e s = absurd (cc)
    found (Some cell) e s = let is : next_number heap n ≡ n + cell_size cell = rw e refl in between heap n k cell e l (omega (arith, is, h))
