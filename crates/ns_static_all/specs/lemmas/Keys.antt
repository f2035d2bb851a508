-- Two lists of numbers of one length, of which neither comes before the other, are one.
use Rattle.std.proofs.Common.{◌≡◌, refl, ℕ, Bool, true, false, List, [], ◌∷◌, length, nat_lt, nat_eq, if◌then◌else◌, arith}
use Rattle.std.proofs.lemmas.Bool.Decides.{nat_tests}
use Rattle.ns_static_rules.specs.Least.{comes_before}

step_same : (x y : ℕ) (a b : Bool) →
    (if nat_lt x y then true else if nat_eq x y then a else false) ≡ false → (if nat_lt y x then true else if nat_eq y x then b else false) ≡ false →
    (x ≡ y) × (a ≡ false) × (b ≡ false)
step_same x y a b h k = (grind (arith, nat_tests), grind (arith, nat_tests), grind (arith, nat_tests))

join : (x y : ℕ) (xs ys : List ℕ) → x ≡ y → xs ≡ ys → x ∷ xs ≡ y ∷ ys
join x y xs ys e f = cc

pub neither_first : (xs ys : List ℕ) → length xs ≡ length ys → comes_before xs ys ≡ false → comes_before ys xs ≡ false → xs ≡ ys
neither_first [] [] e h k = refl
neither_first [] (y ∷ ys) e h k = absurd (omega (arith, e))
neither_first (x ∷ xs) [] e h k = absurd (omega (arith, e))
neither_first (x ∷ xs) (y ∷ ys) e h k =
    let first = step_same x y (comes_before xs ys) (comes_before ys xs) h k in
    join x y xs ys first.0 (neither_first xs ys (omega (arith, e)) first.1 first.2)
