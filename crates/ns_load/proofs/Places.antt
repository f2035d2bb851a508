-- Places further on in a source.
use Rattle.std.proofs.Common.{◌≡◌, ℕ, zero, suc, ◌+◌, ◌-◌, ◌<◌, ◌≤◌, List, [], ◌∷◌, ◌++◌, length, slice_index_or, take, drop, refl, ap, sym, ◌∙◌, cond, true, false, arith, get_or, subst}
use Rattle.std.proofs.Math.Seq.{take-add}
use Rattle.std.proofs.lemmas.List.{length-take-le, drop_more}
use Rattle.std.specs.Prelude.{◌==◌}
use Rattle.ns_base.specs.declared.place.Place.{Place}
use Rattle.ns_lex.specs.Scan.{InOrder}
use Rattle.ns_load.specs.Place.{behind, marks, past, place_of, start}
use Rattle.ns_load.specs.Source.{offset_of}
use Rattle.ns_tree.specs.declared.token.Token.{Token}

pub behind_both : (xs ys : List ℕ) (p : Place) → behind (xs ++ ys) p ≡ behind ys (behind xs p)
behind_both [] ys p = refl
behind_both (x ∷ xs) ys p = behind_both xs ys (past x p)

-- The place of a byte is that behind the text between it and an earlier one.
pub later : (file : ℕ) (source : List ℕ) (from to : ℕ) → from ≤ to → behind (take (to - from) (drop from source)) (place_of file source from) ≡ place_of file source to
later file source from to h =
    let e : from + (to - from) ≡ to = omega arith in
    sym (behind_both (take from source) (take (to - from) (drop from source)) (start file))
    ∙ ap (λ xs. behind xs (start file)) (sym (take-add from (to - from) source) ∙ ap (λ n. take n source) e)

pub past_line : (b : ℕ) (p : Place) → (past b p).line ≤ p.line + 1
past_line b p =
    elim (b == 10) as (λ q. (cond {A = Place} q (record { file = p.file; line = p.line + 1; col = 1 }) (record { file = p.file; line = p.line; col = p.col + 1 })).line ≤ p.line + 1) [
      | true ↦ omega arith
      | false ↦ omega arith
    ]

pub past_col : (b : ℕ) (p : Place) → (past b p).col ≤ p.col + 1
past_col b p =
    elim (b == 10) as (λ q. (cond {A = Place} q (record { file = p.file; line = p.line + 1; col = 1 }) (record { file = p.file; line = p.line; col = p.col + 1 })).col ≤ p.col + 1) [
      | true ↦ omega arith
      | false ↦ omega arith
    ]

pub behind_line : (xs : List ℕ) (p : Place) → (behind xs p).line ≤ p.line + length xs
behind_line [] p = omega arith
behind_line (x ∷ xs) p = omega (arith, behind_line xs (past x p), past_line x p)

pub behind_col : (xs : List ℕ) (p : Place) → (behind xs p).col ≤ p.col + length xs
behind_col [] p = omega arith
behind_col (x ∷ xs) p = omega (arith, behind_col xs (past x p), past_col x p)

pub line_of : (file : ℕ) (source : List ℕ) (at : ℕ) → at ≤ length source → (place_of file source at).line ≤ at + 1
line_of file source at h = omega (arith, behind_line (take at source) (start file), length-take-le at source h)

pub col_of : (file : ℕ) (source : List ℕ) (at : ℕ) → at ≤ length source → (place_of file source at).col ≤ at + 1
col_of file source at h = omega (arith, behind_col (take at source) (start file), length-take-le at source h)

-- ---- tokens in order

pub order_within : (from to : ℕ) (ts : List Token) → InOrder from to ts → from ≤ to
order_within from to [] h = h
order_within from to (t ∷ ts) h = omega (arith, h.0, h.1, order_within t.«end» to ts h.2)

pub order_from : (from at to : ℕ) (ts : List Token) → from ≤ at → InOrder at to ts → InOrder from to ts
order_from from at to [] l h = omega arith
order_from from at to (t ∷ ts) l h = (omega (arith, h.0), h.1, h.2)

-- The next of the tokens that are left stands within the source, and the others behind its start.
pub next_in_order : (from to i : ℕ) (ts : List Token) (t : Token) → i < length ts → t ≡ get_or ts i t → InOrder from to (drop i ts) → (from ≤ t.start) × (t.start ≤ to) × InOrder t.start to (drop (i + 1) ts)
next_in_order from to i ts t l e h =
    let cut : drop i ts ≡ t ∷ drop (i + 1) ts = drop_more ts i t l ∙ ap (λ x. x ∷ drop (i + 1) ts) (sym e) in
    let o : InOrder from to (t ∷ drop (i + 1) ts) = subst (InOrder from to) cut h in
    let w : t.«end» ≤ to = order_within t.«end» to (drop (i + 1) ts) o.2 in
    (o.0, omega (arith, o.1, w), order_from t.start t.«end» to (drop (i + 1) ts) (omega (arith, o.1)) o.2)

-- ---- places of tokens

-- The mark of a number is the place of the token of that number, or the end behind the last.
pub place_of_token : (file : ℕ) (source : List ℕ) (ts : List Token) (k : ℕ) (p : Place) → k < length (marks file source ts) → p ≡ slice_index_or (marks file source ts) k p → p ≡ place_of file source (offset_of ts k (length source))
place_of_token file source [] zero p h e = e
place_of_token file source [] (suc k) p h e = absurd (omega (arith, h))
place_of_token file source (t ∷ ts) zero p h e = e
place_of_token file source (t ∷ ts) (suc k) p h e = place_of_token file source ts k p (omega (arith, h)) e

-- Where no mark has the number, no token has it.
pub no_token : (file : ℕ) (source : List ℕ) (ts : List Token) (k : ℕ) → length (marks file source ts) ≤ k → offset_of ts k (length source) ≡ length source
no_token file source [] k h = refl
no_token file source (t ∷ ts) zero h = absurd (omega (arith, h))
no_token file source (t ∷ ts) (suc k) h = no_token file source ts k (omega (arith, h))
