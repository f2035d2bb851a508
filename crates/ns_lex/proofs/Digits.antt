-- Digits and their number.
use Rattle.std.proofs.Common.{◌≡◌, ℕ, suc, ◌+◌, ◌-◌, ◌*◌, ◌/◌, ◌<◌, ◌≤◌, [], ◌∷◌, None, fold, length, drop, get_or, drop-cons, ap, arith}
use Rattle.std.proofs.lemmas.Bool.Decides.{nat_tests}
use Rattle.ns_lex.specs.Number.{value, with_digit, greatest, at_most_greatest}
use Rattle.ns_lex.specs.Piece.{Text}

-- No digit makes a number less.
pub value_grows : (n : ℕ) (z : Text) → n ≤ fold with_digit n z
value_grows n [] = omega arith
value_grows n (b ∷ z) = omega (arith, value_grows (with_digit n b) z)

too_great : (v : ℕ) → greatest < v → None ≡ at_most_greatest v
too_great v h = grind (arith, nat_tests)

past_greatest : (n d : ℕ) → (greatest - d) / 10 < n → greatest < 10 * n + d
past_greatest n d h = omega arith

-- What is above the greatest number with the next digit stays above it with all of them.
pub above : (s : Text) (i n : ℕ) → i < length s → (greatest - (get_or s i 0 - 48)) / 10 < n → fold with_digit n (drop i s) ≡ value s → None ≡ at_most_greatest (value s)
above s i n h more e =
    let b = get_or s i 0 in
    let cut : fold with_digit n (drop i s) ≡ fold with_digit (with_digit n b) (drop (suc i) s) = ap (fold with_digit n) (drop-cons s i 0 h) in
    too_great (value s) (omega (arith, value_grows (with_digit n b) (drop (suc i) s), past_greatest n (b - 48) more, cut, e))
