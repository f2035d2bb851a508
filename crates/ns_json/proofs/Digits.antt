-- Numbers are told apart: the text of a number has digits alone, and from what begins with it, and goes on with no digit, the number
-- is known and all that stands behind it.
use Rattle.std.proofs.Common.{◌≡◌, ℕ, zero, suc, ◌+◌, ◌-◌, ◌<◌, List, [], ◌∷◌, ◌++◌, map, Bool, true, false, cond, refl, ap, sym, ◌∙◌, arith}
use Rattle.std.specs.Int.Digits.{AllBelowBase, digits_of, number_from_digits}
use Rattle.std.specs.Prelude.{nat_le}
use Rattle.std.proofs.lemmas.Bool.{and_from, le-leb}
use Rattle.std.proofs.lemmas.Int.Digits.{all_below_base_digits_of, number_digits_of}
use Rattle.ns_base.specs.Spelling.{is_digit}
use Rattle.ns_json.specs.Json.{number_text}
use Rattle.ns_json.proofs.Told.{clash}

-- ---- what begins with digits

-- whether a list begins with a digit
abbrev pub starts_digit : List ℕ → Bool
starts_digit [] = false
starts_digit (c ∷ cs) = is_digit c

-- It doesn't.
abbrev pub Stops : List ℕ → Type 0
Stops text = starts_digit text ≡ false

-- the digits in front
abbrev pub leading : List ℕ → List ℕ
leading [] = []
leading (c ∷ cs) = cond (is_digit c) (c ∷ leading cs) []

-- what stands behind them
abbrev pub behind_digits : List ℕ → List ℕ
behind_digits [] = []
behind_digits (c ∷ cs) = cond (is_digit c) (behind_digits cs) (c ∷ cs)

abbrev AreDigits : List ℕ → Type 0
AreDigits [] = Unit {0}
AreDigits (c ∷ cs) = (is_digit c ≡ true) × AreDigits cs

leading_stops : (r : List ℕ) → Stops r → leading r ≡ []
leading_stops [] h = refl
leading_stops (c ∷ cs) h = ap (λ b. cond b (c ∷ leading cs) []) h

behind_stops : (r : List ℕ) → Stops r → behind_digits r ≡ r
behind_stops [] h = refl
behind_stops (c ∷ cs) h = ap (λ b. cond b (behind_digits cs) (c ∷ cs)) h

leading_digits : (ds r : List ℕ) → AreDigits ds → Stops r → leading (ds ++ r) ≡ ds
leading_digits [] r h stops = leading_stops r stops
leading_digits (d ∷ ds) r h stops =
    ap (λ b. cond b (d ∷ leading (ds ++ r)) []) h.0 ∙ ap (λ more. d ∷ more) (leading_digits ds r h.1 stops)

behind_all_digits : (ds r : List ℕ) → AreDigits ds → Stops r → behind_digits (ds ++ r) ≡ r
behind_all_digits [] r h stops = behind_stops r stops
behind_all_digits (d ∷ ds) r h stops =
    ap (λ b. cond b (behind_digits (ds ++ r)) (d ∷ (ds ++ r))) h.0 ∙ behind_all_digits ds r h.1 stops

-- ---- the text of a number

is_digit_of : (d : ℕ) → d < 10 → is_digit (48 + d) ≡ true
is_digit_of d h =
    and_from (nat_le 48 (48 + d)) (nat_le (48 + d) 57) (le-leb 48 (48 + d) (omega arith)) (le-leb (48 + d) 57 (omega (arith, h)))

are_digits : (ds : List ℕ) → AllBelowBase 10 ds → AreDigits (map (λ digit. 48 + digit) ds)
are_digits [] h = tt
are_digits (d ∷ ds) h = (is_digit_of d h.0, are_digits ds h.1)

number_digits : (n : ℕ) → AreDigits (number_text n)
number_digits zero = (refl, tt)
number_digits (suc n) = are_digits (digits_of 10 (suc n)) (all_below_base_digits_of 10 (suc n) (omega arith))

pub leading_number : (n : ℕ) (r : List ℕ) → Stops r → leading (number_text n ++ r) ≡ number_text n
leading_number n r stops = leading_digits (number_text n) r (number_digits n) stops

pub behind_number : (n : ℕ) (r : List ℕ) → Stops r → behind_digits (number_text n ++ r) ≡ r
behind_number n r stops = behind_all_digits (number_text n) r (number_digits n) stops

-- the number of a text
abbrev pub number_of : List ℕ → ℕ
number_of text = number_from_digits 10 (map (λ c. c - 48) text)

digits_back : (ds : List ℕ) → map (λ c. c - 48) (map (λ digit. 48 + digit) ds) ≡ ds
digits_back [] = refl
digits_back (d ∷ ds) = ap (λ c. c ∷ map (λ c. c - 48) (map (λ digit. 48 + digit) ds)) (back d) ∙ ap (λ more. d ∷ more) (digits_back ds)
  where
    back : (d : ℕ) → 48 + d - 48 ≡ d
    back d = omega arith

pub number_back : (n : ℕ) → number_of (number_text n) ≡ n
number_back zero = refl
number_back (suc n) = ap (number_from_digits 10) (digits_back (digits_of 10 (suc n))) ∙ number_digits_of 10 (suc n) (omega arith)

pub number_apart : (m n : ℕ) (r s : List ℕ) → Stops r → Stops s → number_text m ++ r ≡ number_text n ++ s → (m ≡ n) × (r ≡ s)
number_apart m n r s p q e = (
  sym (number_back m) ∙ ap number_of (sym (leading_number m r p) ∙ ap leading e ∙ leading_number n s q) ∙ number_back n,
  sym (behind_number m r p) ∙ ap behind_digits e ∙ behind_number n s q,
)

-- ---- a number begins with a digit

abbrev is_some : List ℕ → Bool
is_some [] = false
is_some (c ∷ cs) = true

begins_with_digit : (ds r : List ℕ) → AreDigits ds → is_some ds ≡ true → starts_digit (ds ++ r) ≡ true
begins_with_digit [] r h e = absurd (clash (sym e))
begins_with_digit (d ∷ ds) r h e = h.0

some_digits : (n : ℕ) (ds : List ℕ) → number_from_digits 10 ds ≡ suc n → is_some (map (λ digit. 48 + digit) ds) ≡ true
some_digits n [] e = let none : 0 ≡ suc n = e in absurd (omega (arith, none))
some_digits n (d ∷ ds) e = refl

number_is_some : (n : ℕ) → is_some (number_text n) ≡ true
number_is_some zero = refl
number_is_some (suc n) = some_digits n (digits_of 10 (suc n)) (number_digits_of 10 (suc n) (omega arith))

starts_number : (n : ℕ) (r : List ℕ) → starts_digit (number_text n ++ r) ≡ true
starts_number n r = begins_with_digit (number_text n) r (number_digits n) (number_is_some n)

-- what begins with no digit is no text that begins with a number
pub no_number : (text : List ℕ) (n : ℕ) (r : List ℕ) → Stops text → text ≡ number_text n ++ r → ⊥
no_number text n r stops e = clash (sym (starts_number n r) ∙ sym (ap starts_digit e) ∙ stops)
