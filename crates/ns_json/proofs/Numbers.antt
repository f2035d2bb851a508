-- The decimal text of a number, digit by digit.
use Rattle.std.proofs.Common.{◌≡◌, ℕ, zero, suc, ◌+◌, ◌/◌, ◌%◌, ◌≤◌, ◌<◌, ◌^◌, List, [], ◌∷◌, ◌++◌, map, true, cond, not, ◌&&◌, refl, ap, sym, ◌∙◌, arith}
use Rattle.std.specs.Prelude.{◌==◌, nat_lt}
use Rattle.std.specs.Fmt.{decimal}
use Rattle.std.specs.Int.Digits.{AllBelowBase, digits_of}
use Rattle.std.proofs.lemmas.Fmt.{decimal-digits_of, decimal_digit}
use Rattle.std.proofs.lemmas.Bool.{and_from, lt-ltb, ne_eqb}
use Rattle.std.proofs.lemmas.Int.Digits.{all_below_base_digits_of, digits_of_step}
use Rattle.std.proofs.lemmas.List.{map-append}
use Rattle.ns_json.specs.Json.{characters, escape, is_plain, number_text}

-- ---- one digit after another

digits_text : (n : ℕ) → 0 < n → number_text n ≡ map (λ digit. 48 + digit) (digits_of 10 n)
digits_text zero h = absurd (omega (arith, h))
digits_text (suc n) h = refl

pub number_text_step : (n : ℕ) → 10 ≤ n → number_text n ≡ number_text (n / 10) ++ ((48 + n % 10) ∷ [])
number_text_step n h =
    digits_text n (omega arith) ∙ ap (map (λ digit. 48 + digit)) (digits_of_step 10 n (omega arith) (omega arith))
    ∙ map-append (λ digit. 48 + digit) (digits_of 10 (n / 10)) (n % 10 ∷ [])
    ∙ ap (λ ds. ds ++ ((48 + n % 10) ∷ [])) (sym (digits_text (n / 10) (omega arith)))

pub number_text_small : (n : ℕ) → n < 10 → number_text n ≡ (48 + n) ∷ []
number_text_small zero h = refl
number_text_small (suc m) h =
    ap (map (λ digit. 48 + digit))
    (digits_of_step 10 (suc m) (omega arith) (omega arith)
    ∙ ap (λ q. digits_of 10 q ++ (suc m % 10 ∷ [])) none ∙ ap (λ r. r ∷ []) same)
  where
    none : suc m / 10 ≡ 0
    none = omega (arith, h)

    same : suc m % 10 ≡ suc m
    same = omega (arith, h)

-- of numbers of 64 bits it is the text of `decimal`
pub decimal_is : (n : ℕ) → n < 2 ^ 64 → decimal n ≡ number_text n
decimal_is zero h = decimal_digit 0 (omega arith)
decimal_is (suc n) h = decimal-digits_of (suc n) (omega arith) h

-- ---- digits are plain

is_plain_digit : (d : ℕ) → d < 10 → is_plain (48 + d) ≡ true
is_plain_digit d h =
    and_from (nat_lt 31 (48 + d) && nat_lt (48 + d) 127 && not ((48 + d) == 34)) (not ((48 + d) == 92))
    (and_from (nat_lt 31 (48 + d) && nat_lt (48 + d) 127) (not ((48 + d) == 34))
    (and_from (nat_lt 31 (48 + d)) (nat_lt (48 + d) 127) (lt-ltb 31 (48 + d) (omega arith)) (lt-ltb (48 + d) 127 (omega (arith, h))))
    (ap not (ne_eqb (48 + d) 34 (λ e. omega (arith, e)))))
    (ap not (ne_eqb (48 + d) 92 (λ e. omega (arith, e, h))))

plain_digits : (ds : List ℕ) → AllBelowBase 10 ds → characters (map (λ digit. 48 + digit) ds) ≡ map (λ digit. 48 + digit) ds
plain_digits [] h = refl
plain_digits (d ∷ ds) h =
    ap (λ b. cond b ((48 + d) ∷ []) (escape (48 + d)) ++ characters (map (λ digit. 48 + digit) ds)) (is_plain_digit d h.0)
    ∙ ap (λ more. (48 + d) ∷ more) (plain_digits ds h.1)

pub number_characters : (n : ℕ) → characters (number_text n) ≡ number_text n
number_characters zero = refl
number_characters (suc n) = plain_digits (digits_of 10 (suc n)) (all_below_base_digits_of 10 (suc n) (omega arith))
