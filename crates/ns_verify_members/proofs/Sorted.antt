-- What lists in order tell: which numbers are in them, and whether one comes twice.
use Rattle.std.proofs.Common.{◌≡◌, ◌≢◌, ◌⊎◌, inl, inr, ℕ, zero, suc, ◌<◌, ◌≤◌, List, [], ◌∷◌, Some, None, Result, Ok, Err, Bool, true, false, not, ◌&&◌, ◌||◌, refl, sym, ap, ◌∙◌, length, get_or, nat_cmp, arith}
use Rattle.std.specs.Prelude.{nat_eq, is_ok, MatchResult}
use Rattle.std.specs.List.{list_any}
use Rattle.std.specs.List.Sorted.{IsNonDecreasing, IsBinarySearchResult}
use Rattle.std.proofs.lemmas.Bool.Decides.{Decides-eqb}
use Rattle.std.proofs.lemmas.Bool.{cases_lt}
use Rattle.std.proofs.lemmas.List.Folds.{list_any_at, list_any_none}
use Rattle.std.proofs.lemmas.List.Sorted.{searched}
use Rattle.ns_verify_members.specs.Numbers.{are_apart, have_no_twins}

unlike : (a b : ℕ) (c : Bool) → nat_eq a b ≡ c → a ≢ b → c ≡ false
unlike a b false is apart = refl
unlike a b true is apart = absurd (apart ((Decides-eqb a b).0 is))

-- numbers that aren't equal
pub differ : (a b : ℕ) → a ≢ b → nat_eq a b ≡ false
differ a b apart = unlike a b (nat_eq a b) refl apart

side_of : (xs : List ℕ) (x i k : ℕ) → ((k : ℕ) → k < i → get_or xs k 0 < x) → ((k : ℕ) → i ≤ k → k < length xs → x < get_or xs k 0) →
    k < length xs → x ≢ get_or xs k 0
side_of xs x i k below above within same = by (cases_lt k i)
  where
    by : (k < i) ⊎ (i ≤ k) → ⊥
    by (inl lt) = let low = below k lt in omega (arith, low, same)
    by (inr le) = let high = above k le within in omega (arith, high, same)

answer : (xs : List ℕ) (x : ℕ) (r : Result ℕ ℕ) →
    MatchResult r (λ i. (i < length xs) × (get_or xs i 0 ≡ x)) (λ i. (i ≤ length xs) × ((k : ℕ) → k < i → get_or xs k 0 < x) × ((k : ℕ) → i ≤ k → k < length xs → x < get_or xs k 0)) →
    is_ok r ≡ list_any (nat_eq x) xs
answer xs x (Ok i) at = sym (list_any_at (nat_eq x) xs i 0 at.0 ((Decides-eqb x (get_or xs i 0)).1 (sym at.1)))
answer xs x (Err i) at =
    sym (list_any_none (nat_eq x) xs (λ k d within. differ x (get_or xs k d) (rw (read xs k d within) (side_of xs x i k at.1 at.2 within))))
  where
    read : (xs : List ℕ) (k d : ℕ) → k < length xs → get_or xs k d ≡ get_or xs k 0
    read [] k d within = absurd (omega (arith, within))
    read (y ∷ ys) zero d within = refl
    read (y ∷ ys) (suc k) d within = read ys k d (omega (arith, within))

-- a search in a list in order tells whether a number is in it
pub searched_has : (xs : List ℕ) (x : ℕ) (r : Result ℕ ℕ) → IsBinarySearchResult (λ y. nat_cmp y x) xs r → IsNonDecreasing xs →
    is_ok r ≡ list_any (nat_eq x) xs
searched_has xs x r found up = answer xs x r (searched xs x r found (λ i j le within. up i j 0 le within))

-- numbers that rise from one on
abbrev IsUp : ℕ → List ℕ → Type 0
IsUp low [] = Unit {0}
IsUp low (x ∷ xs) = (low ≤ x) × IsUp x xs

up_from : (x : ℕ) (xs : List ℕ) → IsNonDecreasing (x ∷ xs) → IsUp x xs
up_from x [] up = tt
up_from x (y ∷ ys) up =
    (up 0 1 0 (omega arith) (omega arith), up_from y ys (λ i j d le within. up (suc i) (suc j) d (omega (arith, le)) (omega (arith, within))))

none_below : (low x : ℕ) (xs : List ℕ) → low < x → IsUp x xs → list_any (nat_eq low) xs ≡ false
none_below low x [] lt up = refl
none_below low x (y ∷ ys) lt up =
    let more : low < y = omega (arith, lt, up.0) in
    rw (differ low y (λ same. omega (arith, more, same))) (none_below low y ys more up.1)

twins_step : (low x : ℕ) (xs : List ℕ) (b : Bool) → nat_eq low x ≡ b → low ≤ x → IsUp x xs →
    (not b && (not (list_any (nat_eq x) xs) && are_apart xs)) ≡ (not (b || list_any (nat_eq low) xs) && (not (list_any (nat_eq x) xs) && are_apart xs))
twins_step low x xs true is le up = refl
twins_step low x xs false is le up =
    let lt : low < x = strictly low x is le in
    rw (none_below low x xs lt up) refl
  where
    strictly : (low x : ℕ) → nat_eq low x ≡ false → low ≤ x → low < x
    strictly low x is le = by (cases_lt low x)
      where
        by : (low < x) ⊎ (x ≤ low) → low < x
        by (inl lt) = lt
        by (inr ge) = absurd (let same : low ≡ x = omega (arith, le, ge) in let yes = (Decides-eqb low x).1 same in cc)

twins_from : (low : ℕ) (xs : List ℕ) → IsUp low xs → have_no_twins (Some low) xs ≡ (not (list_any (nat_eq low) xs) && are_apart xs)
twins_from low [] up = refl
twins_from low (x ∷ xs) up = ap (not (nat_eq low x) &&◌) (twins_from x xs up.1) ∙ twins_step low x xs (nat_eq low x) refl up.0 up.1

-- in a list in order equal numbers stand side by side
pub twins_apart : (xs : List ℕ) → IsNonDecreasing xs → have_no_twins None xs ≡ are_apart xs
twins_apart [] up = refl
twins_apart (x ∷ xs) up = twins_from x xs (up_from x xs up)
