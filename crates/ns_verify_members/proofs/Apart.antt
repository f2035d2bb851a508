-- Numbers of which none comes twice, in another order.
use Rattle.std.proofs.Common.{◌≡◌, ℕ, List, [], ◌∷◌, Bool, true, false, not, ◌&&◌, ◌||◌, refl, sym}
use Rattle.std.specs.Prelude.{nat_eq}
use Rattle.std.specs.List.{list_any, IsDistinct, AllByRecursion}
use Rattle.std.specs.List.Sorted.{IsPermutation}
use Rattle.std.proofs.lemmas.Bool.Decides.{same_from_decides, Decides-eqb}
use Rattle.std.proofs.lemmas.List.Sorted.{IsPermutation-sym}
use Rattle.std.proofs.lemmas.Map.Keys.{IsDistinct-IsPermutation}
use Rattle.ns_verify_members.specs.Numbers.{are_apart}

neither : (a b : Bool) → (a || b) ≡ false → (a ≡ false) × (b ≡ false)
neither false false e = (refl, refl)
neither true b e = absurd (cc)
neither false true e = absurd (cc)

both : (a b : Bool) → (not a && b) ≡ true → (a ≡ false) × (b ≡ true)
both false true e = (refl, refl)
both false false e = absurd (cc)
both true b e = absurd (cc)

each_unlike : (n : ℕ) (ns : List ℕ) → list_any (nat_eq n) ns ≡ false → AllByRecursion (λ m. nat_eq n m ≡ false) ns
each_unlike n [] e = tt
each_unlike n (m ∷ ns) e = let no = neither (nat_eq n m) (list_any (nat_eq n) ns) e in (no.0, each_unlike n ns no.1)

none_like : (n : ℕ) (ns : List ℕ) → AllByRecursion (λ m. nat_eq n m ≡ false) ns → list_any (nat_eq n) ns ≡ false
none_like n [] all = refl
none_like n (m ∷ ns) all = rw all.0 (none_like n ns all.1)

distinct_from : (ns : List ℕ) → are_apart ns ≡ true → IsDistinct nat_eq ns
unfolding IsDistinct
distinct_from [] e = tt
distinct_from (n ∷ ns) e = let is = both (list_any (nat_eq n) ns) (are_apart ns) e in (each_unlike n ns is.0, distinct_from ns is.1)

apart_from : (ns : List ℕ) → IsDistinct nat_eq ns → are_apart ns ≡ true
unfolding IsDistinct
apart_from [] d = refl
apart_from (n ∷ ns) d = rw (none_like n ns d.0) (apart_from ns d.1)

flips : (x y : ℕ) → nat_eq x y ≡ nat_eq y x
flips x y =
    same_from_decides (nat_eq x y) (nat_eq y x) (Decides-eqb x y) (λ e. sym ((Decides-eqb y x).0 e), λ e. (Decides-eqb y x).1 (sym e))

-- the order of numbers doesn't matter
pub apart_permuted : (xs ys : List ℕ) → IsPermutation xs ys → are_apart ys ≡ are_apart xs
apart_permuted xs ys p =
    same_from_decides (are_apart ys) (are_apart xs) (distinct_from ys, apart_from ys)
    (λ e. IsDistinct-IsPermutation nat_eq flips xs ys p (distinct_from xs e), λ d. apart_from xs (IsDistinct-IsPermutation nat_eq flips ys xs (IsPermutation-sym xs ys p) d))
