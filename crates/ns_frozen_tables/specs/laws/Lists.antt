-- Laws of lists: one more at the end, one that is set, and what is left of one.
use Rattle.std.proofs.Common.{◌≡◌, ℕ, zero, suc, ◌+◌, ◌<◌, ◌≤◌, List, [], ◌∷◌, ◌++◌, length, get_or, slice_get, drop, drop-cons, refl, ap, sym, ◌∙◌, subst, arith, Some, None}
use Rattle.std.specs.Prelude.{slice_set}

-- what stands at no place stands behind all
pub past : {A : Type 0} (xs : List A) (n : ℕ) → slice_get xs n ≡ None → length xs ≤ n
past [] n e = omega arith
past (x ∷ xs) zero e = absurd (cc)
past (x ∷ xs) (suc n) e = omega (arith, past xs n e)

pub got_left : {A : Type 0} (xs : List A) (y : A) (k : ℕ) → k < length xs → slice_get (xs ++ y ∷ []) k ≡ slice_get xs k
got_left [] y k h = absurd (omega (arith, h))
got_left (x ∷ xs) y zero h = refl
got_left (x ∷ xs) y (suc k) h = got_left xs y k (omega (arith, h))

pub got_end : {A : Type 0} (xs : List A) (y : A) → slice_get (xs ++ y ∷ []) (length xs) ≡ Some y
got_end [] y = refl
got_end (x ∷ xs) y = got_end xs y

pub one_longer : {A : Type 0} (xs : List A) (y : A) → length (xs ++ y ∷ []) ≡ suc (length xs)
one_longer [] y = refl
one_longer (x ∷ xs) y = ap (λ n. suc n) (one_longer xs y)

-- the next of those that are left
pub next_of : {A : Type 0} (xs : List A) (index : ℕ) (x : A) → index < length xs → x ≡ get_or xs index x → drop index xs ≡ x ∷ drop (index + 1) xs
next_of {A} xs index x within is =
    drop-cons xs index x within ∙ (ap (λ (one : A). one ∷ drop (suc index) xs) (sym is) ∙ ap (λ (n : ℕ). x ∷ drop n xs) next)
  where
    next : suc index ≡ index + 1
    next = omega arith

-- what holds at each place, and of what is set at one
pub set_each : {A : Type 0} (xs : List A) (k : ℕ) (v : A) (P : ℕ → A → Type 0) → ((i : ℕ) (y : A) → slice_get xs i ≡ Some y → P i y) → P k v
    → (i : ℕ) (y : A) → slice_get (slice_set xs k v) i ≡ Some y → P i y
set_each [] zero v P all here i y e = absurd (cc)
set_each [] (suc k) v P all here i y e = absurd (cc)
set_each (x ∷ xs) zero v P all here zero y e = let same : v ≡ y = cc in subst (P zero) same here
set_each (x ∷ xs) zero v P all here (suc i) y e = all (suc i) y e
set_each (x ∷ xs) (suc k) v P all here zero y e = all zero y e
set_each (x ∷ xs) (suc k) v P all here (suc i) y e = set_each xs k v (λ i y. P (suc i) y) (λ i y f. all (suc i) y f) here i y e
