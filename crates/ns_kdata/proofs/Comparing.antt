-- Comparing bytes one after another.
use Rattle.std.proofs.Common.{◌≡◌, ◌≢◌, ℕ, zero, suc, ◌+◌, ◌*◌, ◌<◌, ◌≤◌, min, List, [], ◌∷◌, ◌++◌, length, take, drop, get_or, refl, ap, sym, ◌∙◌, arith, Bool, true, false, eqb, length-drop}
use Rattle.std.specs.Prelude.{nat_lt, not}
use Rattle.std.specs.Str.{bytes_eq}
use Rattle.std.proofs.lemmas.Bool.{eq-eqb, eqb-true, leb-true, leb-false}
use Rattle.std.proofs.lemmas.List.{drop_more, drop_all}
use Rattle.std.proofs.Math.Seq.{take-add}
use Rattle.std.proofs.lemmas.Slice.Eq.{bytes_eq-Decides}
use Rattle.ns_kdata.specs.Texts.{is_before}

differs : (m n : ℕ) → m ≢ n → eqb m n ≡ false
differs m n h = tested (eqb m n) refl
  where
    tested : (b : Bool) → eqb m n ≡ b → eqb m n ≡ false
    tested true e = absurd (h (eqb-true m n e))
    tested false e = e

same_heads : (a b : ℕ) (firsts seconds : List ℕ) → a ≡ b → bytes_eq (a ∷ firsts) (b ∷ seconds) ≡ bytes_eq firsts seconds
same_heads a b firsts seconds e = rw (eq-eqb a b e) refl

other_heads : (a b : ℕ) (firsts seconds : List ℕ) → a ≢ b → bytes_eq (a ∷ firsts) (b ∷ seconds) ≡ false
other_heads a b firsts seconds h = rw (differs a b h) refl

-- where two bytes are equal, what stands behind them decides
pub equal_on : (one other : List ℕ) (i : ℕ) → i < length one → i < length other → get_or one i 0 ≡ get_or other i 0 →
    bytes_eq (drop i one) (drop i other) ≡ bytes_eq (drop (i + 1) one) (drop (i + 1) other)
equal_on one other i h k e = rw (drop_more one i 0 h, drop_more other i 0 k) (same_heads _ _ (drop (i + 1) one) (drop (i + 1) other) e)

-- where they differ, the texts do
pub equal_no : (one other : List ℕ) (i : ℕ) → i < length one → i < length other → get_or one i 0 ≢ get_or other i 0 →
    bytes_eq (drop i one) (drop i other) ≡ false
equal_no one other i h k e = rw (drop_more one i 0 h, drop_more other i 0 k) (other_heads _ _ (drop (i + 1) one) (drop (i + 1) other) e)

-- behind the last bytes nothing differs
pub equal_end : (one other : List ℕ) (i : ℕ) → length one ≤ i → length other ≤ i → bytes_eq (drop i one) (drop i other) ≡ true
equal_end one other i h k = rw (drop_all i one h, drop_all i other k) refl

-- texts of different sizes differ
pub other_size : (one other : List ℕ) → length one ≢ length other → bytes_eq one other ≡ false
other_size one other h = tested (bytes_eq one other) refl
  where
    tested : (b : Bool) → bytes_eq one other ≡ b → bytes_eq one other ≡ false
    tested true e = absurd (h (ap length ((bytes_eq-Decides one other).0 e)))
    tested false e = e

same_next : (a b : ℕ) (firsts seconds : List ℕ) → a ≡ b → is_before (a ∷ firsts) (b ∷ seconds) ≡ is_before firsts seconds
same_next a b firsts seconds e = rw (eq-eqb a b e) refl

other_next : (a b : ℕ) (firsts seconds : List ℕ) → a ≢ b → is_before (a ∷ firsts) (b ∷ seconds) ≡ nat_lt a b
other_next a b firsts seconds h = rw (differs a b h) refl

-- where two bytes are equal, what stands behind them decides the order
pub before_on : (one other : List ℕ) (i : ℕ) → i < length one → i < length other → get_or one i 0 ≡ get_or other i 0 →
    is_before (drop i one) (drop i other) ≡ is_before (drop (i + 1) one) (drop (i + 1) other)
before_on one other i h k e = rw (drop_more one i 0 h, drop_more other i 0 k) (same_next _ _ (drop (i + 1) one) (drop (i + 1) other) e)

-- where they differ, they decide it
pub before_here : (one other : List ℕ) (i : ℕ) → i < length one → i < length other → get_or one i 0 ≢ get_or other i 0 →
    is_before (drop i one) (drop i other) ≡ nat_lt (get_or one i 0) (get_or other i 0)
before_here one other i h k e = rw (drop_more one i 0 h, drop_more other i 0 k) (other_next _ _ (drop (i + 1) one) (drop (i + 1) other) e)

-- where one text ends, it comes first if the other goes on
pub before_end : (one other : List ℕ) (i : ℕ) → i ≡ min (length one) (length other) →
    is_before (drop i one) (drop i other) ≡ nat_lt (length one) (length other)
before_end one other i e = tested (nat_lt (length one) (length other)) refl
  where
    goes_on : (bytes : List ℕ) → 0 < length bytes → is_before [] bytes ≡ true
    goes_on [] h = absurd (omega arith)
    goes_on (byte ∷ bytes) h = refl

    tested : (b : Bool) → nat_lt (length one) (length other) ≡ b → is_before (drop i one) (drop i other) ≡ nat_lt (length one) (length other)
    tested true t =
        let less : length one < length other = leb-true _ _ t in
        rw (drop_all i one (omega (arith, e)), t) (goes_on (drop i other) (omega (arith, e, length-drop i other)))
    tested false t =
        let more : length other ≤ length one = grind (arith, leb-false _ _ t) in
        rw (drop_all i other (omega (arith, e)), t) refl

-- bytes that don't differ are the same
pub same_rows : (one other : List ℕ) → not (bytes_eq one other) ≡ false → one ≡ other
same_rows one other h = tested (bytes_eq one other) refl h
  where
    tested : (b : Bool) → bytes_eq one other ≡ b → not b ≡ false → one ≡ other
    tested true e h = (bytes_eq-Decides one other).0 e
    tested false e h = absurd (cc)

-- where so many rows of eight are the same, and the next is, so are the bytes of one row more
pub front_on : (one other : List ℕ) (row : ℕ) → take (8 * row) one ≡ take (8 * row) other →
    take 8 (drop (8 * row) one) ≡ take 8 (drop (8 * row) other) → take (8 * (row + 1)) one ≡ take (8 * (row + 1)) other
front_on one other row e next =
    let more : 8 * (row + 1) ≡ 8 * row + 8 = omega arith in
    let split : (bytes : List ℕ) → take (8 * (row + 1)) bytes ≡ take (8 * row) bytes ++ take 8 (drop (8 * row) bytes) =
    λ bytes. ap (λ n. take n bytes) more ∙ take-add (8 * row) 8 bytes in
    split one ∙ (ap (λ front. front ++ take 8 (drop (8 * row) one)) e ∙ (ap (λ rest. take (8 * row) other ++ rest) next ∙ sym (split other)))

-- behind fronts that are the same the rest decides
pub equal_behind : (n : ℕ) (one other : List ℕ) → n ≤ length one → n ≤ length other → take n one ≡ take n other →
    bytes_eq (drop n one) (drop n other) ≡ bytes_eq one other
equal_behind zero one other h k e = refl
equal_behind (suc n) [] other h k e = absurd (omega (arith, h))
equal_behind (suc n) (a ∷ one) [] h k e = absurd (omega (arith, k))
equal_behind (suc n) (a ∷ one) (b ∷ other) h k e =
    let first : a ≡ b = cc in
    let rest : take n one ≡ take n other = cc in
    equal_behind n one other (omega (arith, h)) (omega (arith, k)) rest ∙ sym (same_heads a b one other first)

pub before_behind : (n : ℕ) (one other : List ℕ) → n ≤ length one → n ≤ length other → take n one ≡ take n other →
    is_before (drop n one) (drop n other) ≡ is_before one other
before_behind zero one other h k e = refl
before_behind (suc n) [] other h k e = absurd (omega (arith, h))
before_behind (suc n) (a ∷ one) [] h k e = absurd (omega (arith, k))
before_behind (suc n) (a ∷ one) (b ∷ other) h k e =
    let first : a ≡ b = cc in
    let rest : take n one ≡ take n other = cc in
    before_behind n one other (omega (arith, h)) (omega (arith, k)) rest ∙ sym (same_next a b one other first)
