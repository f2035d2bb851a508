-- The counts of `do:`, which are within its array.
use Rattle.std.proofs.Common.{◌≡◌, ℕ, ℤ, ap, ◌∙◌, arith, Bool, true}
use Rattle.std.specs.Prelude.{pos, int_le, int_lt, ◌&&◌, ◌+ℤ◌}
use Rattle.std.specs.Ordering.{int_eq}

-- whether a count is from 0 to a size, which is that number
abbrev pub is_within : ℤ → ℤ → ℕ → Bool
is_within size count items = int_eq size (pos items) && int_le (pos 0) count && int_le count size

pub first_within : (items : ℕ) → is_within (pos items) (pos 0) items ≡ true
first_within items = grind (arith)

pub next_within : (size count : ℤ) (items : ℕ) → is_within size count items ≡ true → int_lt count size ≡ true →
    is_within size (count +ℤ pos 1) items ≡ true
next_within size count items h l = grind (arith, h, l)

pub same_within : (size count : ℤ) (items others : ℕ) → others ≡ items → is_within size count items ≡ true →
    is_within size count others ≡ true
same_within size count items others e h = ap (λ many. is_within size count many) e ∙ h
