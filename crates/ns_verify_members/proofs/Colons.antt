-- The name that is another with a colon behind it, and names that are put into a table one after another.
use Rattle.std.proofs.Common.{◌≡◌, ◌≢◌, ℕ, suc, ◌+◌, ◌<◌, List, [], ◌∷◌, ◌++◌, Option, Some, None, Bool, true, false, cond, not, ◌||◌, refl, sym, ap, ◌∙◌, subst, length, map, slice_get, option_map, get_or, arith}
use Rattle.std.specs.Prelude.{unwrap_or, position}
use Rattle.std.specs.List.{list_any, position_or_len, IsDistinct, AllByRecursion, AllPairs}
use Rattle.std.specs.Str.{bytes_eq}
use Rattle.std.specs.Cmp.Lexicographic.{nat_list_eq_equiv}
use Rattle.std.proofs.lemmas.Bool.{lt-ltb}
use Rattle.std.proofs.lemmas.Map.Keys.{IsDistinct-head, IsDistinct-tail}
use Rattle.std.proofs.lemmas.Map.Made.{IsDistinct-from_AllPairs}
use Rattle.std.proofs.lemmas.Option.{slice_get-map, get_or_from_slice_get}
use Rattle.std.proofs.lemmas.Slice.Eq.{bytes_eq-Decides}
use Rattle.ns_base.specs.Names.{has}
use Rattle.ns_verify_members.specs.Numbers.{with_colon, setter_number}

setter_from : (names : List (List ℕ)) (number : ℕ) (o : Option ℕ) (found : Option (List ℕ)) → slice_get names number ≡ found →
    option_map (with_colon names) found ≡ Some o → unwrap_or o (length names + number) ≡ setter_number names number
setter_from names number o None at is = absurd (cc)
setter_from names number o (Some text) at is =
    let same : with_colon names text ≡ o = cc in
    let read : get_or names number [] ≡ text = get_or_from_slice_get names number text [] at in
    ap (λ o. unwrap_or o (length names + number)) (sym same ∙ ap (with_colon names) (sym read))

-- what stands in the table of setters for a name tells the number of its setter
pub setter_is : (names : List (List ℕ)) (setters : List (Option ℕ)) (number : ℕ) (o : Option ℕ) → setters ≡ map (with_colon names) names →
    slice_get setters number ≡ Some o → unwrap_or o (length names + number) ≡ setter_number names number
setter_is names setters number o is at =
    setter_from names number o (slice_get names number) refl
    (sym (slice_get-map (with_colon names) names number) ∙ (ap (λ all. slice_get all number) (sym is) ∙ at))

within_step : {X : Type 0} (p : X → Bool) (xs : List X) (b rest : Bool) → rest ≡ list_any p xs →
    (list_any p xs ≡ true → position_or_len p xs < length xs) →
    (b || list_any p xs) ≡ true → cond (not b) (1 + position_or_len p xs) 0 < suc (length xs)
within_step p xs true rest is far e = omega arith
within_step p xs false rest is far e = let near = far e in omega (arith, near)

-- where one passes, the place of the first is within the list
found_within : {X : Type 0} (p : X → Bool) (xs : List X) → list_any p xs ≡ true → position_or_len p xs < length xs
found_within p [] e = absurd (cc)
found_within p (x ∷ xs) e = within_step p xs (p x) (list_any p xs) refl (found_within p xs) e

none_by : {X : Type 0} (p : X → Bool) (xs : List X) (b : Bool) → list_any p xs ≡ b → position p xs ≡ None → list_any p xs ≡ false
none_by p xs false is e = is
none_by p xs true is e =
    let near = lt-ltb (position_or_len p xs) (length xs) (found_within p xs is) in
    let some : position p xs ≡ Some (position_or_len p xs) = ap (λ b. cond b (Some (position_or_len p xs)) None) near in
    absurd (cc)

-- where there is no first one, none passes
pub none_at_no_place : {X : Type 0} (p : X → Bool) (xs : List X) → position p xs ≡ None → list_any p xs ≡ false
none_at_no_place p xs e = none_by p xs (list_any p xs) refl e

unlike_one : (one text : List ℕ) (seen rest : List (List ℕ)) → AllByRecursion (λ y. bytes_eq one y ≡ false) (seen ++ text ∷ rest) →
    bytes_eq one text ≡ false
unlike_one one text [] rest all = all.0
unlike_one one text (other ∷ seen) rest all = unlike_one one text seen rest all.1

-- in a list without repeats an item isn't among those before it
new_in : (seen : List (List ℕ)) (text : List ℕ) (rest : List (List ℕ)) → IsDistinct bytes_eq (seen ++ text ∷ rest) → has seen text ≡ false
new_in [] text rest apart = refl
new_in (one ∷ seen) text rest apart =
    rw (nat_list_eq_equiv.symm text one, unlike_one one text seen rest (IsDistinct-head bytes_eq one (seen ++ text ∷ rest) apart))
    (new_in seen text rest (IsDistinct-tail bytes_eq one (seen ++ text ∷ rest) apart))

-- among names that differ one isn't among those before it
pub new_behind : (seen : List (List ℕ)) (text : List ℕ) (rest names : List (List ℕ)) → seen ++ text ∷ rest ≡ names →
    AllPairs (λ a b. a ≢ b) names → has seen text ≡ false
new_behind seen text rest names is differ =
    let apart = IsDistinct-from_AllPairs bytes_eq-Decides names differ in new_in seen text rest (subst (IsDistinct bytes_eq) (sym is) apart)
