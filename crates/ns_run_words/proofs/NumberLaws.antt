-- Numbers in decimal.
use Rattle.std.proofs.Common.{◌≡◌, ◌∙◌, ℕ, suc, ◌+◌, ◌-◌, ◌*◌, ◌<◌, ◌≤◌, List, [], ◌∷◌, true, false, None, cond, refl, sym, ap, arith, length, drop, get_or, drop-cons}
use Rattle.std.specs.Prelude.{option_and_then}
use Rattle.std.proofs.lemmas.Bool.Decides.{nat_tests}
use Rattle.ns_base.specs.Spelling.{is_digit}
use Rattle.ns_run_words.specs.Words.{in_range, value_from}

-- Further digits never make a number smaller.
too_big : (greatest n : ℕ) (ds : List ℕ) → greatest < n → option_and_then (in_range greatest) (value_from n ds) ≡ None
too_big greatest n [] h = grind (arith, nat_tests)
too_big greatest n (d ∷ ds) h =
    elim (is_digit d) as (λ b. option_and_then (in_range greatest) (cond b (value_from (n * 10 + (d - 48)) ds) None) ≡ None) [
      | true ↦ too_big greatest (n * 10 + (d - 48)) ds (omega arith)
      | false ↦ refl
    ]

-- A number that has a digit more than the greatest is too big.
too_long : (greatest n d : ℕ) (ds : List ℕ) → greatest ≤ 9223372036854775808 → 922337203685477580 < n
    → option_and_then (in_range greatest) (value_from n (d ∷ ds)) ≡ None
too_long greatest n d ds most h =
    elim (is_digit d) as (λ b. option_and_then (in_range greatest) (cond b (value_from (n * 10 + (d - 48)) ds) None) ≡ None) [
      | true ↦ too_big greatest (n * 10 + (d - 48)) ds (omega (arith, most, h))
      | false ↦ refl
    ]

-- So is one of which so many digits were read, where a digit follows.
pub digit_more : (greatest : ℕ) (text : List ℕ) (i n : ℕ) → i < length text → greatest ≤ 9223372036854775808 → 922337203685477580 < n
    → option_and_then (in_range greatest) (value_from n (drop i text)) ≡ option_and_then (in_range greatest) (value_from 0 text)
    → None ≡ option_and_then (in_range greatest) (value_from 0 text)
digit_more greatest text i n there most long same =
    sym (too_long greatest n (get_or text i 0) (drop (suc i) text) most long)
    ∙ (ap (λ ds. option_and_then (in_range greatest) (value_from n ds)) (sym (drop-cons text i 0 there)) ∙ same)
