-- One item of a list.
use Rattle.std.proofs.Common.{◌≡◌, ℕ, zero, suc, List, [], ◌∷◌, ◌++◌, length, ◌<◌, refl, ap, arith, Some}
use Rattle.std.specs.Prelude.{◌≢◌, slice_get, slice_set}

-- an item that is written is there
pub set_here : {A : Type 0} (xs : List A) (i : ℕ) (x y : A) → slice_get xs i ≡ Some x → slice_get (slice_set xs i y) i ≡ Some y
set_here [] i x y e = absurd (cc)
set_here (z ∷ xs) zero x y e = refl
set_here (z ∷ xs) (suc i) x y e = set_here xs i x y e

-- no other has changed
pub set_there : {A : Type 0} (xs : List A) (i j : ℕ) (y : A) → j ≢ i → slice_get (slice_set xs i y) j ≡ slice_get xs j
set_there [] i j y e = refl
set_there (z ∷ xs) zero zero y e = absurd (e refl)
set_there (z ∷ xs) zero (suc j) y e = refl
set_there (z ∷ xs) (suc i) zero y e = refl
set_there (z ∷ xs) (suc i) (suc j) y e = set_there xs i j y (λ same. e (ap suc same))

-- items that come behind change nothing of it
pub get_before : {A : Type 0} (xs ys : List A) (i : ℕ) → i < length xs → slice_get (xs ++ ys) i ≡ slice_get xs i
get_before [] ys i e = absurd (omega (arith, e))
get_before (z ∷ xs) ys zero e = refl
get_before (z ∷ xs) ys (suc i) e = get_before xs ys i (omega (arith, e))

pub set_before : {A : Type 0} (xs ys : List A) (i : ℕ) (y : A) → i < length xs → slice_set (xs ++ ys) i y ≡ slice_set xs i y ++ ys
set_before [] ys i y e = absurd (omega (arith, e))
set_before (z ∷ xs) ys zero y e = refl
set_before (z ∷ xs) ys (suc i) y e = ap (λ (rest : List _). z ∷ rest) (set_before xs ys i y (omega (arith, e)))
