-- Names that are numbers are names of locals.
use Rattle.std.proofs.Common.{◌≡◌, ℕ, zero, suc, ◌+◌, ◌^◌, ◌<◌, ◌≤◌, ◌∷◌, [], List, length, map, All, Bool, true, false, eqb, refl, sym, ap, subst, ◌∙◌, arith}
use Rattle.std.specs.Prelude.{◌||◌, nat_le, not, decimal}
use Rattle.std.specs.List.{list_all}
use Rattle.std.specs.Int.Digits.{digits_of, AllBelowBase}
use Rattle.std.proofs.lemmas.Bool.{le-leb, leb-true, eqb-true}
use Rattle.std.proofs.lemmas.Fmt.{decimal_digit, decimal-digits_of, length-decimal-le}
use Rattle.std.proofs.lemmas.Int.Digits.{all_below_base_digits_of}
use Rattle.std.proofs.lemmas.List.FromFn.{get_or-map-range_with_len, length-map-range_with_len}
use Rattle.ns_base.specs.Spelling.{is_digit, begins_name, goes_on_name, is_identifier, is_reserved}
use Rattle.ns_code.specs.Fits.{IsByte, IsLocalName}
use Rattle.ns_code.specs.LocalNames.{numbered_name, numbered_names}
use Rattle.ns_image.proofs.Texts.{both, together}

digit_is : (d : ℕ) → d < 10 → is_digit (48 + d) ≡ true
digit_is d lt = together (nat_le 48 (48 + d)) (nat_le (48 + d) 57) (le-leb 48 (48 + d) (omega arith)) (le-leb (48 + d) 57 (omega arith))

digits_are : (ds : List ℕ) → AllBelowBase 10 ds → list_all is_digit (map (λ d. 48 + d) ds) ≡ true
digits_are [] below = refl
digits_are (d ∷ ds) below =
    together (is_digit (48 + d)) (list_all is_digit (map (λ d. 48 + d) ds)) (digit_is d below.0) (digits_are ds below.1)

decimal_digits : (n : ℕ) → n < 2 ^ 64 → list_all is_digit (decimal n) ≡ true
decimal_digits zero lt = ap (list_all is_digit) (decimal_digit 0 (omega arith))
decimal_digits (suc n) lt =
    ap (list_all is_digit) (decimal-digits_of (suc n) (omega arith) lt) ∙ digits_are (digits_of 10 (suc n)) (all_below_base_digits_of 10 (suc n) (omega arith))

or_true : (p : Bool) → (p || true) ≡ true
or_true true = refl
or_true false = refl

all_go_on : (bytes : List ℕ) → list_all is_digit bytes ≡ true → list_all goes_on_name bytes ≡ true
all_go_on [] e = refl
all_go_on (byte ∷ bytes) e =
    let parts = both (is_digit byte) (list_all is_digit bytes) e in
    let one : goes_on_name byte ≡ true = ap (λ (p : Bool). begins_name byte || p) parts.0 ∙ or_true (begins_name byte) in
    together (goes_on_name byte) (list_all goes_on_name bytes) one (all_go_on bytes parts.1)

no_r : (byte : ℕ) → is_digit byte ≡ true → eqb byte 114 ≡ false
no_r byte e = tested (eqb byte 114) refl
  where
    tested : (answer : Bool) → eqb byte 114 ≡ answer → eqb byte 114 ≡ false
    tested false h = h
    tested true h =
        let small : byte ≤ 57 = leb-true byte 57 (both (nat_le 48 byte) (nat_le byte 57) e).1 in
        let great : byte ≡ 114 = eqb-true byte 114 h in
        absurd (omega arith)

not_reserved : (bytes : List ℕ) → list_all is_digit bytes ≡ true → is_reserved (116 ∷ bytes) ≡ false
not_reserved [] e = refl
not_reserved (byte ∷ bytes) e = rw (no_r byte (both (is_digit byte) (list_all is_digit bytes) e).0) refl

numbered_name_fits : (k : ℕ) → IsByte k → IsLocalName (numbered_name k)
numbered_name_fits k small =
    let digits : list_all is_digit (decimal k) ≡ true = decimal_digits k (omega arith) in
    let few : length (decimal k) ≤ 3 = length-decimal-le 3 k (omega arith) (omega arith) (omega arith) in
    record {
      short = omega arith;
      spelled = together (is_identifier (numbered_name k)) (not (is_reserved (numbered_name k))) (all_go_on (decimal k) digits) (ap not (not_reserved (decimal k) digits));
    }

pub length-numbered_names : (n : ℕ) → length (numbered_names n) ≡ n
length-numbered_names n = length-map-range_with_len numbered_name 0 n

pub numbered_names_fit : (n : ℕ) → IsByte n → All IsLocalName (numbered_names n)
numbered_names_fit n small = λ k d lt.
    let below : k < n = omega (arith, length-numbered_names n) in
    subst IsLocalName (sym (get_or-map-range_with_len numbered_name 0 n k k d below (omega arith))) (numbered_name_fits k (omega arith))
