-- Letters in front of a text, and names that a sign joins.
use Rattle.std.proofs.Common.{◌≡◌, ◌≢◌, ℕ, suc, ◌+◌, ◌-◌, ◌<◌, ◌≤◌, ◌&&◌, eqb, List, [], ◌∷◌, ◌++◌, Bool, true, false, Option, Some, None, MatchOption, Bor, append_assoc, map, cond, nat_eq, nat_le, not, length, take, drop, refl, sym, ap, ◌∙◌, arith}
use Rattle.std.proofs.lemmas.Bool.Decides.{nat_tests}
use Rattle.std.proofs.lemmas.List.{append-nil, map-append}
use Rattle.std.specs.List.{after_first, before_first, position_or_len}
use Rattle.std.proofs.lemmas.Str.Pattern.{IsSplitOnceResult, split_once_first}
use Rattle.ns_run_words.specs.Application.{all_name_files, are_few, begins, names_in, onto_first, without}
use Rattle.ns_run_words.specs.FileName.{is_file_name}

-- ---- a letter

pub begins_not : (c : ℕ) (bs : List ℕ) → ((rest : List ℕ) → bs ≢ c ∷ rest) → begins c bs ≡ false
begins_not c [] h = refl
begins_not c (x ∷ xs) h =
    elim (nat_eq x c) as (λ q. nat_eq x c ≡ q → q ≡ false) [
      | true ↦ λ e.
          let is : x ≡ c = grind (arith, nat_tests, e) in absurd (h xs (ap (λ y. y ∷ xs) is))
      | false ↦ λ e. refl
    ] refl

pub without_none : (c : ℕ) (bs : List ℕ) → ((rest : List ℕ) → bs ≢ c ∷ rest) → without c bs ≡ bs
without_none c [] h = refl
without_none c (x ∷ xs) h = let e : nat_eq x c ≡ false = begins_not c (x ∷ xs) h in rw e refl

pub begins_so : (c : ℕ) (bs rest : List ℕ) → bs ≡ c ∷ rest → begins c bs ≡ true
begins_so c bs rest h =
    let e : nat_eq c c ≡ true = grind (arith, nat_tests) in ap (begins c) h ∙ e

pub without_one : (c : ℕ) (bs rest : List ℕ) → bs ≡ c ∷ rest → without c bs ≡ rest
without_one c bs rest h =
    let e : nat_eq c c ≡ true = grind (arith, nat_tests) in ap (without c) h ∙ ap (λ q. cond q rest (c ∷ rest)) e

-- ---- names

abbrev pub is_plus : ℕ → Bool
is_plus b = nat_eq b 43

-- Without the sign there is one name.
pub one_name : (bs : List ℕ) → position_or_len is_plus bs ≡ length bs → names_in bs ≡ bs ∷ []
one_name [] h = refl
one_name (b ∷ bs) h =
    elim (nat_eq b 43) as (λ q. cond (not q) (1 + position_or_len is_plus bs) 0 ≡ length (b ∷ bs) → cond q ([] ∷ names_in bs) (onto_first b (names_in bs)) ≡ (b ∷ bs) ∷ []) [
      | true ↦ λ e. absurd (omega (arith, e))
      | false ↦ λ e. ap (onto_first b) (one_name bs (omega (arith, e)))
    ] h

-- Else the first stands before the first sign, and the others behind it.
pub first_name : (bs : List ℕ) → position_or_len is_plus bs < length bs → names_in bs ≡ before_first is_plus bs ∷ names_in (after_first is_plus bs)
first_name [] h = absurd (omega (arith, h))
first_name (b ∷ bs) h =
    elim (nat_eq b 43) as (λ q. cond (not q) (1 + position_or_len is_plus bs) 0 < length (b ∷ bs)
    → cond q ([] ∷ names_in bs) (onto_first b (names_in bs)) ≡ take (cond (not q) (1 + position_or_len is_plus bs) 0) (b ∷ bs) ∷ names_in (drop (cond (not q) (1 + position_or_len is_plus bs) 0 + 1) (b ∷ bs))) [
      | true ↦ λ e. refl
      | false ↦ λ e. more (first_name bs (omega (arith, e)))
    ] h
  where
    size : (n : ℕ) → onto_first b (take n bs ∷ names_in (drop (n + 1) bs)) ≡ take (1 + n) (b ∷ bs) ∷ names_in (drop (1 + n + 1) (b ∷ bs))
    size n =
        let e : 1 + n ≡ suc n = omega arith in
        let f : suc n + 1 ≡ suc (n + 1) = omega arith in
        rw (e, f) refl

    more : names_in bs ≡ before_first is_plus bs ∷ names_in (after_first is_plus bs) → onto_first b (names_in bs) ≡ take (1 + position_or_len is_plus bs) (b ∷ bs) ∷ names_in (drop (1 + position_or_len is_plus bs + 1) (b ∷ bs))
    more f = ap (onto_first b) f ∙ size (position_or_len is_plus bs)

-- There is one at least.
pub some_names : (bs : List ℕ) → 1 ≤ length (names_in bs)
some_names [] = omega arith
some_names (b ∷ bs) =
    elim (nat_eq b 43) as (λ q. 1 ≤ length (cond q ([] ∷ names_in bs) (onto_first b (names_in bs)))) [
      | true ↦ omega arith
      | false ↦ onto (names_in bs)
    ]
  where
    onto : (names : List (List ℕ)) → 1 ≤ length (onto_first b names)
    onto [] = omega arith
    onto (name ∷ names) = omega arith

-- ---- at most so many

pub no_room : (bs : List ℕ) → are_few 0 (names_in bs) ≡ false
no_room bs =
    let e : nat_le (length (names_in bs)) 0 ≡ false = grind (arith, nat_tests, some_names bs) in
    ap (λ q. q && all_name_files (names_in bs)) e

pub one_is_few : (most : ℕ) (name : List ℕ) → 1 ≤ most → are_few most (name ∷ []) ≡ is_file_name name
one_is_few most name l =
    let e : nat_le (length (name ∷ [])) most ≡ true = grind (arith, nat_tests) in
    ap (λ q. q && (is_file_name name && true)) e ∙ both (is_file_name name)
  where
    both : (q : Bool) → (q && true) ≡ q
    both true = refl
    both false = refl

pub more_are_few : (most : ℕ) (name : List ℕ) (names : List (List ℕ)) → 1 ≤ most → are_few most (name ∷ names) ≡ (is_file_name name && are_few (most - 1) names)
more_are_few most name names l =
    let e : nat_le (length (name ∷ names)) most ≡ nat_le (length names) (most - 1) = same (nat_le (length names) (most - 1)) refl in
    ap (λ q. q && (is_file_name name && all_name_files names)) e ∙ turned (nat_le (length names) (most - 1)) (is_file_name name)
  where
    same : (q : Bool) → nat_le (length names) (most - 1) ≡ q → nat_le (length (name ∷ names)) most ≡ nat_le (length names) (most - 1)
    same true e =
        let n : nat_le (length (name ∷ names)) most ≡ true = grind (arith, nat_tests, e, l) in n ∙ sym e
    same false e =
        let n : nat_le (length (name ∷ names)) most ≡ false = grind (arith, nat_tests, e, l) in n ∙ sym e

    turned : (q r : Bool) → (q && (r && all_name_files names)) ≡ (r && (q && all_name_files names))
    turned true true = refl
    turned true false = refl
    turned false true = refl
    turned false false = refl

-- ---- what splits them

-- Behind the first sign.
pub split_names : (bs : List ℕ) (parts : Option (Bor (List ℕ) × Bor (List ℕ))) → IsSplitOnceResult 43 bs parts
    → MatchOption parts (names_in bs ≡ bs ∷ []) (λ x. names_in bs ≡ x.0.now ∷ names_in x.1.now)
split_names bs parts s = each parts (split_once_first 43 bs parts s (omega arith))
  where
    each : (parts : Option (Bor (List ℕ) × Bor (List ℕ)))
        → MatchOption parts (position_or_len (λ b. eqb b 43) bs ≡ length bs) (λ x. (position_or_len (λ b. eqb b 43) bs < length bs) × (x.0.now ≡ before_first (λ b. eqb b 43) bs) × (x.1.now ≡ after_first (λ b. eqb b 43) bs))
        → MatchOption parts (names_in bs ≡ bs ∷ []) (λ x. names_in bs ≡ x.0.now ∷ names_in x.1.now)
    each None h = one_name bs h
    each (Some x) (l, front, rest) = first_name bs l ∙ ap (λ n. n ∷ names_in (after_first is_plus bs)) (sym front) ∙ ap (λ r. x.0.now ∷ names_in r) (sym rest)

-- ---- names that were taken apart

-- A name more, of those that are left.
pub name_taken : {A : Type 0} (shown : A → List ℕ) (names more : List A) (name : A) (all left first : List ℕ) (rest : List (List ℕ)) → map shown names ++ names_in left ≡ names_in all → names_in left ≡ first ∷ rest → shown name ≡ first
    → more ≡ names ++ name ∷ [] → map shown more ++ rest ≡ names_in all
name_taken shown names more name all left first rest so is here pushed =
    ap (λ n. map shown n ++ rest) pushed
    ∙ ap (λ n. n ++ rest) (map-append shown names (name ∷ []))
    ∙ append_assoc (map shown names) (shown name ∷ []) rest
    ∙ ap (λ n. map shown names ++ n ∷ rest) here
    ∙ ap (λ n. map shown names ++ n) (sym is)
    ∙ so

pub last_taken : {A : Type 0} (shown : A → List ℕ) (names more : List A) (name : A) (all left : List ℕ) → map shown names ++ names_in left ≡ names_in all → names_in left ≡ left ∷ [] → shown name ≡ left → more ≡ names ++ name ∷ []
    → map shown more ≡ names_in all
last_taken shown names more name all left so is here pushed = sym (append-nil (map shown more)) ∙ name_taken shown names more name all left left [] so is here pushed
