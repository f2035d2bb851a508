-- Division of integers that rounds down.
use Rattle.std.specs.Prelude.{ℕ, suc, ◌/◌, ℤ, pos, negsuc, neg_ℤ, ◌-ℤ◌, ◌+ℤ◌, ◌*ℤ◌, ◌≤ℤ◌, ◌<ℤ◌, ◌≡◌, int_lt, Bool, ◌&&◌, ◌||◌}

-- the quotient by a natural number, rounded down: `negsuc a` is -(a + 1)
abbrev pub floored_by : ℤ → ℕ → ℤ
floored_by (pos a) n = pos (a / n)
floored_by (negsuc a) n = negsuc (a / n)

-- the quotient, rounded down
abbrev pub floored_quotient : ℤ → ℤ → ℤ
floored_quotient left (pos n) = floored_by left n
floored_quotient left (negsuc n) = floored_by (neg_ℤ left) (suc n)

-- what that quotient leaves of the dividend
abbrev pub floored_remainder : ℤ → ℤ → ℤ
floored_remainder left right = left -ℤ floored_quotient left right *ℤ right

-- whether a number stands between zero and the divisor, which it doesn't reach
abbrev pub IsRemainderOf : ℤ → ℤ → Type 0
IsRemainderOf (pos n) rest = (pos 0 ≤ℤ rest) × (rest <ℤ pos n)
IsRemainderOf (negsuc n) rest = (negsuc n <ℤ rest) × (rest ≤ℤ pos 0)

-- a division that rounds down: the remainder has the divisor's sign and is smaller
pub record IsFlooredDivision (left right quotient rest : ℤ) : Type 0 where
  pub sum : left ≡ quotient *ℤ right +ℤ rest
  pub size : IsRemainderOf right rest

-- whether one number is above zero and the other below
abbrev pub signs_differ : ℤ → ℤ → Bool
signs_differ one other = int_lt one (pos 0) && int_lt (pos 0) other || int_lt other (pos 0) && int_lt (pos 0) one
