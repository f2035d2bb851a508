-- The division that rounds down, and the one toward zero.
use Rattle.std.proofs.Common.{◌≡◌, ◌≢◌, sym, ap, ◌∙◌, ℕ, zero, suc, ◌+◌, ◌-◌, ◌<◌, ℤ, pos, negsuc, ◌+ℤ◌, ◌-ℤ◌, ◌*ℤ◌, ◌≤ℤ◌, ◌<ℤ◌, arith, true, false}
use Rattle.std.specs.Prelude.{unsigned_abs, int_div, int_rem}
use Rattle.std.specs.Int.{w64, IsNonZero}
use Rattle.std.proofs.lemmas.Int.{ints, by_lt_z, quot-rem, rem_below}
use Rattle.std.proofs.lemmas.Grind.{common_steps}
use Rattle.std.proofs.Math.IntN.{suc_ℤ-*ℤ, pred_ℤ-*ℤ, +ℤ_one, -ℤ_one, *ℤ-negsuc}
use Rattle.ns_kint.specs.Division.{floored_quotient, floored_remainder, IsRemainderOf, IsFlooredDivision, signs_differ}

-- a greater number is so many further on
gap : (a b : ℤ) → a <ℤ b → (k : ℕ) × (b ≡ a +ℤ pos (suc k))
gap (pos a) (pos b) h = (b - suc a, omega (arith, ints))
gap (pos a) (negsuc b) h = (0, omega (arith, ints))
gap (negsuc a) (pos b) h = (a + b, omega (arith, ints))
gap (negsuc a) (negsuc b) h = (a - suc b, omega (arith, ints))

-- one more times a number
one_more : (q d : ℤ) → (q +ℤ pos 1) *ℤ d ≡ q *ℤ d +ℤ d
one_more q d = ap (λ x. x *ℤ d) (+ℤ_one q) ∙ suc_ℤ-*ℤ q d

one_less : (q d : ℤ) → (q -ℤ pos 1) *ℤ d ≡ q *ℤ d -ℤ d
one_less q d = ap (λ x. x *ℤ d) (-ℤ_one q) ∙ pred_ℤ-*ℤ q d

-- a greater factor makes the product greater by a whole divisor
further : (k : ℕ) (q : ℤ) (n : ℕ) → (q *ℤ pos n +ℤ pos n) ≤ℤ ((q +ℤ pos (suc k)) *ℤ pos n)
further zero q n = omega (arith, ints, one_more q (pos n))
further (suc k) q n =
    let e : q +ℤ pos (suc (suc k)) ≡ (q +ℤ pos (suc k)) +ℤ pos 1 = omega (arith, ints) in
    let here = further k q n in
    let more = one_more (q +ℤ pos (suc k)) (pos n) in
    rw e (omega (arith, ints))

-- two multiples less than a divisor apart are one
near : (q p : ℤ) (n : ℕ) → (q *ℤ pos n) <ℤ (p *ℤ pos n +ℤ pos n) → (p *ℤ pos n) <ℤ (q *ℤ pos n +ℤ pos n) → q ≡ p
near q p n below above =
    by_lt_z q p
    (λ less. let g = gap q p less in let far = further g.0 q n in let e = g.1 in absurd (clash q p (g.0) n e far above))
    (λ le. by_lt_z p q
    (λ less. let g = gap p q less in let far = further g.0 p n in let e = g.1 in absurd (clash p q (g.0) n e far below))
    (λ ge. omega (arith, ints)))
  where
    clash : (a b : ℤ) (k n : ℕ) → b ≡ a +ℤ pos (suc k) → (a *ℤ pos n +ℤ pos n) ≤ℤ ((a +ℤ pos (suc k)) *ℤ pos n) → (b *ℤ pos n) <ℤ (a *ℤ pos n +ℤ pos n) → ⊥
    clash a b k n e far less =
        let h : ((a +ℤ pos (suc k)) *ℤ pos n) <ℤ (a *ℤ pos n +ℤ pos n) = rw (← e) less in
        omega (arith, ints)

-- a division that rounds down has one quotient
one_quotient : (left right q r p s : ℤ) → IsFlooredDivision left right q r → IsFlooredDivision left right p s → q ≡ p
one_quotient left (pos n) q r p s one other =
    near q p n (omega (arith, ints, one.sum, other.sum, one.size, other.size)) (omega (arith, ints, one.sum, other.sum, one.size, other.size))
one_quotient left (negsuc n) q r p s one other =
    let e = *ℤ-negsuc q n in
    let f = *ℤ-negsuc p n in
    near q p (suc n) (omega (arith, ints, one.sum, other.sum, one.size, other.size)) (omega (arith, ints, one.sum, other.sum, one.size, other.size))

-- and one remainder
one_remainder : (left right q r p s : ℤ) → q ≡ p → IsFlooredDivision left right q r → IsFlooredDivision left right p s → r ≡ s
one_remainder left right q r p s e one other =
    let f : p *ℤ right ≡ q *ℤ right = ap (λ x. x *ℤ right) (sym e) in
    omega (arith, ints, one.sum, other.sum)

-- a remainder has a divisor
not_zero : (right rest : ℤ) → IsRemainderOf right rest → right ≢ pos 0
not_zero (pos n) rest size = λ (e : pos n ≡ pos 0). omega (arith, ints, size)
not_zero (negsuc n) rest size = λ (e : negsuc n ≡ pos 0). cc

-- the definition is such a division
pub rounds : (left right : ℤ) → right ≢ pos 0 → IsFlooredDivision left right (floored_quotient left right) (floored_remainder left right)
rounds left right h = grind (arith, common_steps)

-- and no other is
pub alone : (left right quotient rest : ℤ) → IsFlooredDivision left right quotient rest →
    (quotient ≡ floored_quotient left right) × (rest ≡ floored_remainder left right)
alone left right quotient rest d =
    let known = rounds left right (not_zero right rest d.size) in
    let same = one_quotient left right quotient rest _ _ d known in
    (same, one_remainder left right quotient rest _ _ same d known)

-- the division toward zero is that division where the remainder has the divisor's sign
pub kept : (left right q r : ℤ) → q *ℤ right +ℤ r ≡ left → unsigned_abs r < unsigned_abs right → signs_differ r right ≡ false →
    (q ≡ floored_quotient left right) × (r ≡ floored_remainder left right)
kept left right q r sum small same = alone left right q r (record { sum = sym sum; size = sized right r small same })
  where
    sized : (right r : ℤ) → unsigned_abs r < unsigned_abs right → signs_differ r right ≡ false → IsRemainderOf right r
    sized (pos n) r small same = grind (arith, ints)
    sized (negsuc n) r small same = grind (arith, ints)

-- and is one too great where it has not
pub moved : (left right q r : ℤ) → q *ℤ right +ℤ r ≡ left → unsigned_abs r < unsigned_abs right → signs_differ r right ≡ true →
    (q -ℤ pos 1 ≡ floored_quotient left right) × (r +ℤ right ≡ floored_remainder left right)
moved left right q r sum small other =
    let e = one_less q right in
    alone left right (q -ℤ pos 1) (r +ℤ right) (record { sum = omega (arith, ints); size = sized right r small other })
  where
    sized : (right r : ℤ) → unsigned_abs r < unsigned_abs right → signs_differ r right ≡ true → IsRemainderOf right (r +ℤ right)
    sized (pos n) r small other = grind (arith, ints)
    sized (negsuc n) r small other = grind (arith, ints)

nonzero : (d : ℤ) → IsNonZero w64 d → 0 < unsigned_abs d
nonzero (pos n) h = h
nonzero (negsuc n) h = omega arith

-- what the code's quotient and remainder toward zero come to
pub quotient_kept : (left right : ℤ) → IsNonZero w64 right → signs_differ (int_rem left right) right ≡ false →
    int_div left right ≡ floored_quotient left right
quotient_kept left right h same = (kept left right _ _ (quot-rem left right) (rem_below left right (nonzero right h)) same).0

pub remainder_kept : (left right : ℤ) → IsNonZero w64 right → signs_differ (int_rem left right) right ≡ false →
    int_rem left right ≡ floored_remainder left right
remainder_kept left right h same = (kept left right _ _ (quot-rem left right) (rem_below left right (nonzero right h)) same).1

pub quotient_moved : (left right : ℤ) → IsNonZero w64 right → signs_differ (int_rem left right) right ≡ true →
    int_div left right -ℤ pos 1 ≡ floored_quotient left right
quotient_moved left right h other = (moved left right _ _ (quot-rem left right) (rem_below left right (nonzero right h)) other).0

pub remainder_moved : (left right : ℤ) → IsNonZero w64 right → signs_differ (int_rem left right) right ≡ true →
    int_rem left right +ℤ right ≡ floored_remainder left right
remainder_moved left right h other = (moved left right _ _ (quot-rem left right) (rem_below left right (nonzero right h)) other).1
