-- The bytes that were loaded, which are one more than fits at most.
use Rattle.std.proofs.Common.{◌≡◌, ℕ, ◌+◌, ◌<◌, List, length, take, nat_lt, cond, refl, ap, arith, inl, inr}
use Rattle.std.proofs.lemmas.Bool.{cases_lt, lt-ltb}
use Rattle.std.proofs.lemmas.List.{length-take-le, take_all}

-- In one byte more than fits, a test of the length and a function see the same.
pub cut_same : {X : Type 0} (n : ℕ) (xs : List ℕ) (x : X) (f : List ℕ → X) →
    cond (nat_lt n (length (take (n + 1) xs))) x (f (take (n + 1) xs)) ≡ cond (nat_lt n (length xs)) x (f xs)
cut_same n xs x f =
    elim (cases_lt n (length xs)) [
      | inl h ↦
          let a : n < length (take (n + 1) xs) = omega (arith, length-take-le (n + 1) xs (omega arith)) in
          rw (lt-ltb n (length (take (n + 1) xs)) a, lt-ltb n (length xs) h) refl
      | inr h ↦
          let e : take (n + 1) xs ≡ xs = take_all (n + 1) xs (omega arith) in
          ap (λ ys. cond (nat_lt n (length ys)) x (f ys)) e
    ]
