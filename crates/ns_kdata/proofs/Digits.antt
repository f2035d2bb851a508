-- The digits of a number.
use Rattle.std.proofs.Common.{◌≡◌, ℕ, ◌+◌, ◌/◌, ◌^◌, ◌<◌, ◌≤◌, ◌∷◌, length, ℤ, pos, negsuc, int_le, unsigned_abs, refl, ap, sym, ◌∙◌, arith, false, true≢false, length-append}
use Rattle.std.proofs.lemmas.Fmt.{decimal_digit, decimal_step, length-decimal-le}
use Rattle.std.specs.Fmt.{decimal, signed_decimal}
use lib.Dec.{leb-zero}

pub length_digit : (n : ℕ) → n < 10 → length (decimal n) ≡ 1
length_digit n h = ap length (decimal_digit n h)

pub length_step : (n : ℕ) → 10 ≤ n → n < 2 ^ 64 → length (decimal n) ≡ length (decimal (n / 10)) + 1
length_step n low high = ap length (decimal_step n low high) ∙ length-append _ _

-- at most 20 digits, and for what an Integer has without its sign at most 19
pub length_all : (n : ℕ) → n < 2 ^ 64 → length (decimal n) ≤ 20
length_all n h = length-decimal-le 20 n (omega arith) (omega arith) h

pub length_whole : (n : ℕ) → n ≤ 2 ^ 63 → length (decimal n) ≤ 19
length_whole n h = length-decimal-le 19 n (omega arith) (omega arith) (omega arith)

-- below 0 the sign comes first
pub minus_first : (z : ℤ) → int_le (pos 0) z ≡ false → 45 ∷ decimal (unsigned_abs z) ≡ signed_decimal z
minus_first (pos n) e = absurd (true≢false (sym (leb-zero n) ∙ e))
minus_first (negsuc n) e = refl
