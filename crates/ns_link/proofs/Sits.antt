-- A list that sits in itself, and what holds of each declaration of a list at its number.
use Rattle.std.proofs.Common.{◌≡◌, ℕ, zero, suc, ◌+◌, List, [], ◌∷◌, ◌++◌, length, subst, arith}
use Rattle.std.specs.Prelude.{Some, None, slice_get}
use Rattle.std.proofs.lemmas.Option.{same_Some}
use Rattle.ns_resolved.specs.laws.Sits.{Sits}

pub sits_itself : {A : Type 0} → (all : List A) → Sits all 0 all
sits_itself all k item e = let z : k ≡ k + 0 = omega arith in subst (λ n. slice_get all n ≡ Some item) z e

-- ---- each item of a list, at its number

module _ {A : Type 0} (Is : ℕ → A → Type 0) where
  abbrev pub AreAll : ℕ → List A → Type 0
  AreAll n [] = Unit {0}
  AreAll n (item ∷ items) = Is n item × AreAll (n + 1) items

  pub all_both : (n count : ℕ) (a b : List A) → length a ≡ count → AreAll n a → AreAll (n + count) b → AreAll n (a ++ b)
  all_both n count [] b h left right = let z : n + count ≡ n = let f : 0 ≡ count = h in omega (f, arith) in subst (λ j. AreAll j b) z right
  all_both n zero (item ∷ a) b h left right = absurd (let f : suc (length a) ≡ 0 = h in omega (f, arith))
  all_both n (suc count) (item ∷ a) b h left right =
      let same : length a ≡ count = let f : suc (length a) ≡ suc count = h in omega (f, arith) in
      let z : n + suc count ≡ n + 1 + count = omega arith in
      (left.0, all_both (n + 1) count a b same left.1 (subst (λ j. AreAll j b) z right))

  pub all_at : (n k : ℕ) (items : List A) (item : A) → AreAll n items → slice_get items k ≡ Some item → Is (k + n) item
  all_at n k [] item each e = absurd (let f : None ≡ Some item = e in cc)
  all_at n zero (first ∷ items) item each e =
      let z : n ≡ 0 + n = omega arith in subst (λ j. Is j item) z (subst (Is n) (same_Some first item e) each.0)
  all_at n (suc k) (first ∷ items) item each e =
      let z : k + (n + 1) ≡ suc k + n = omega arith in subst (λ j. Is j item) z (all_at (n + 1) k items item each.1 e)
