-- The order of faults.
use Rattle.std.proofs.Common.{◌≡◌, ◌⊎◌, inl, inr, refl, ℕ, ◌<◌, Bool, true, false, List, [], ◌∷◌, length, nat_lt, nat_eq, if◌then◌else◌, arith, Option, Some, None, fold}
use Rattle.std.proofs.lemmas.Bool.Decides.{nat_tests}
use Rattle.ns_static_rules.specs.declared.fault.Placed.{Placed}
use Rattle.ns_static_rules.specs.Least.{comes_before, order_of, earlier, least}
use Rattle.ns_static_rules.specs.LeastOf.{IsAmong, NoneBefore, IsLeastOf}

pub is_false : (b : Bool) → (b ≡ true → ⊥) → b ≡ false
is_false true h = absurd (h refl)
is_false false h = refl

pub not_both : (b : Bool) → b ≡ true → b ≡ false → ⊥
not_both true h k = cc
not_both false h k = cc

-- the step of `comes_before`
first_less : (x y : ℕ) (r : Bool) → (if nat_lt x y then true else if nat_eq x y then r else false) ≡ true → (x < y) ⊎ ((x ≡ y) × (r ≡ true))
first_less x y true h = grind (arith, nat_tests)
first_less x y false h = grind (arith, nat_tests)

less_first : (x y : ℕ) (r : Bool) → x < y → (if nat_lt x y then true else if nat_eq x y then r else false) ≡ true
less_first x y r h = grind (arith, nat_tests)

same_first : (x y : ℕ) (r : Bool) → x ≡ y → r ≡ true → (if nat_lt x y then true else if nat_eq x y then r else false) ≡ true
same_first x y r h k = grind (arith, nat_tests)

pub not_itself : (xs : List ℕ) → comes_before xs xs ≡ false
not_itself [] = refl
not_itself (x ∷ xs) = grind (arith, nat_tests, not_itself xs)

step_step : (x y z : ℕ) (a b r : Bool) → (a ≡ true → b ≡ true → r ≡ true) → (x < y) ⊎ ((x ≡ y) × (a ≡ true)) → (y < z) ⊎ ((y ≡ z) × (b ≡ true)) → (if nat_lt x z then true else if nat_eq x z then r else false) ≡ true
step_step x y z a b r ih (inl h) (inl k) = less_first x z r (omega arith)
step_step x y z a b r ih (inl h) (inr (e, k)) = less_first x z r (omega arith)
step_step x y z a b r ih (inr (e, h)) (inl k) = less_first x z r (omega arith)
step_step x y z a b r ih (inr (e, h)) (inr (f, k)) = same_first x z r (omega arith) (ih h k)

pub before_before : (xs ys zs : List ℕ) → comes_before xs ys ≡ true → comes_before ys zs ≡ true → comes_before xs zs ≡ true
before_before [] ys zs h k = absurd cc
before_before (x ∷ xs) [] zs h k = absurd cc
before_before (x ∷ xs) (y ∷ ys) [] h k = absurd cc
before_before (x ∷ xs) (y ∷ ys) (z ∷ zs) h k =
    step_step x y z (comes_before xs ys) (comes_before ys zs) (comes_before xs zs) (before_before xs ys zs) (first_less x y (comes_before xs ys) h) (first_less y z (comes_before ys zs) k)

-- what comes before a list, but not before another of its length, is behind by the other
not_less : (x y : ℕ) (r : Bool) → (if nat_lt x y then true else if nat_eq x y then r else false) ≡ false → (y < x) ⊎ ((x ≡ y) × (r ≡ false))
not_less x y true h = grind (arith, nat_tests)
not_less x y false h = grind (arith, nat_tests)

step_not : (x y z : ℕ) (a b r : Bool) → (a ≡ true → b ≡ false → r ≡ true) → (x < z) ⊎ ((x ≡ z) × (a ≡ true)) → (z < y) ⊎ ((y ≡ z) × (b ≡ false)) → (if nat_lt x y then true else if nat_eq x y then r else false) ≡ true
step_not x y z a b r ih (inl h) (inl k) = less_first x y r (omega arith)
step_not x y z a b r ih (inl h) (inr (e, k)) = less_first x y r (omega arith)
step_not x y z a b r ih (inr (e, h)) (inl k) = less_first x y r (omega arith)
step_not x y z a b r ih (inr (e, h)) (inr (f, k)) = same_first x y r (omega arith) (ih h k)

pub before_other : (xs ys zs : List ℕ) → length xs ≡ length ys → length ys ≡ length zs → comes_before xs zs ≡ true → comes_before ys zs ≡ false → comes_before xs ys ≡ true
before_other [] ys zs e f h k = absurd cc
before_other (x ∷ xs) [] zs e f h k = absurd (omega arith)
before_other (x ∷ xs) (y ∷ ys) [] e f h k = absurd cc
before_other (x ∷ xs) (y ∷ ys) (z ∷ zs) e f h k =
    step_not x y z (comes_before xs zs) (comes_before ys zs) (comes_before xs ys) (before_other xs ys zs (omega arith) (omega arith)) (first_less x z (comes_before xs zs) h) (not_less y z (comes_before ys zs) k)

-- ---- the least of a fault and others

abbrev LeastFrom : Placed → List Placed → Placed → Type 0
LeastFrom first xs fault = ((first ≡ fault) ⊎ IsAmong xs fault) × (comes_before (order_of first) (order_of fault) ≡ false) × NoneBefore xs fault

-- where the next one comes before the first, the least from the next one on is the least
from_next : (first next fault : Placed) (xs : List Placed) → comes_before (order_of next) (order_of first) ≡ true → LeastFrom next xs fault → LeastFrom first (next ∷ xs) fault
from_next first next fault xs h (at, behind, none) =
    (inr at, is_false (comes_before (order_of first) (order_of fault)) (λ k. not_both (comes_before (order_of next) (order_of fault)) (before_before (order_of next) (order_of first) (order_of fault) h k) behind), (behind, none))

-- where it doesn't, the least from the first on is
past_next : (first next fault : Placed) (xs : List Placed) → comes_before (order_of next) (order_of first) ≡ false → LeastFrom first xs fault → LeastFrom first (next ∷ xs) fault
past_next first next fault xs h (inl e, behind, none) = (inl e, behind, (is_false (comes_before (order_of next) (order_of fault)) (λ k. not_both (comes_before (order_of next) (order_of first)) (before_other (order_of next) (order_of first) (order_of fault) refl refl k behind) h), none))
past_next first next fault xs h (inr at, behind, none) = (inr (inr at), behind, (is_false (comes_before (order_of next) (order_of fault)) (λ k. not_both (comes_before (order_of next) (order_of first)) (before_other (order_of next) (order_of first) (order_of fault) refl refl k behind) h), none))

abbrev IsLeastFrom : Placed → List Placed → Option Placed → Type 0
IsLeastFrom first xs None = ⊥
IsLeastFrom first xs (Some fault) = LeastFrom first xs fault

from_next_on : (first next : Placed) (xs : List Placed) (o : Option Placed) → comes_before (order_of next) (order_of first) ≡ true → IsLeastFrom next xs o → IsLeastFrom first (next ∷ xs) o
from_next_on first next xs None h k = k
from_next_on first next xs (Some fault) h k = from_next first next fault xs h k

past_next_on : (first next : Placed) (xs : List Placed) (o : Option Placed) → comes_before (order_of next) (order_of first) ≡ false → IsLeastFrom first xs o → IsLeastFrom first (next ∷ xs) o
past_next_on first next xs None h k = k
past_next_on first next xs (Some fault) h k = past_next first next fault xs h k

-- the choice of `earlier`
by_test : (first next : Placed) (xs : List Placed) (b : Bool) →
    (b ≡ true → IsLeastFrom first (next ∷ xs) (fold earlier (Some next) xs)) → (b ≡ false → IsLeastFrom first (next ∷ xs) (fold earlier (Some first) xs)) →
    IsLeastFrom first (next ∷ xs) (fold earlier (if b then Some next else Some first) xs)
by_test first next xs true h k = h refl
by_test first next xs false h k = k refl

least_from : (first : Placed) (xs : List Placed) → IsLeastFrom first xs (fold earlier (Some first) xs)
least_from first [] = (inl refl, not_itself (order_of first), tt)
least_from first (next ∷ xs) = by_test first next xs (comes_before (order_of next) (order_of first))
    (λ h. from_next_on first next xs (fold earlier (Some next) xs) h (least_from next xs))
    (λ h. past_next_on first next xs (fold earlier (Some first) xs) h (least_from first xs))

to_least : (first : Placed) (xs : List Placed) (o : Option Placed) → IsLeastFrom first xs o → IsLeastOf (first ∷ xs) o
to_least first xs None h = absurd h
to_least first xs (Some fault) (at, behind, none) = (at, (behind, none))

pub least_is_least : (faults : List Placed) → IsLeastOf faults (least faults)
least_is_least [] = refl
least_is_least (first ∷ xs) = to_least first xs (fold earlier (Some first) xs) (least_from first xs)
