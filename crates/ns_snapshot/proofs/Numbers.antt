-- The formats of single fields and of lists behind their count.
use Rattle.std.proofs.Common.{ℕ, ◌^◌, ◌<◌, ◌≤◌, List, length, refl, arith, All}
use Rattle.std.specs.Prelude.{nat_le, ◌&&◌}
use Rattle.std.specs.Int.{w64}
use Rattle.std.proofs.lemmas.Bool.{and_parts, and_from, leb-true, le-leb}
use Rattle.ns_base.specs.Limits.{IsFrom1To}
use Rattle.ns_base.specs.declared.selector.Sel.{Sel}
use Rattle.ns_code.specs.Fits.{IsWord}
use Rattle.ns_image.specs.Bytes as b
use Rattle.ns_image.specs.Read.{Reader}
use Rattle.ns_image.specs.laws.Format.{Format, field, refit, mapped, checks}
use Rattle.ns_image.specs.laws.Fields.{number_format, wide64, word_format, times_format}
use Rattle.ns_snapshot.specs.Bytes as s
use Rattle.ns_snapshot.specs.Fields as fields
use Rattle.ns_snapshot.specs.Fits.{IsDouble}

-- a number of eight bytes
pub double_format : Format fields.double IsDouble s.double
double_format = number_format w64 (2 ^ 64) wide64

-- a number of eight bytes from 1 to the greatest
pub from_1_to_format : (greatest : ℕ) → greatest < 2 ^ 64 → Format (fields.from_1_to greatest) (λ n. IsFrom1To n greatest) s.double
from_1_to_format greatest below =
    refit (checks (λ n. nat_le 1 n && nat_le n greatest) double_format)
    (λ n k g.
    let t = and_parts (nat_le 1 n) (nat_le n greatest) g.1 in
    (tt, (leb-true 1 n t.0, leb-true n greatest t.1)))
    (λ n k g. (tt, (lt_of n g.1, and_from (nat_le 1 n) (nat_le n greatest) (le-leb 1 n g.0) (le-leb n greatest g.1))))
  where
    lt_of : (n : ℕ) → n ≤ greatest → n < 2 ^ 64
    lt_of n le = omega arith

-- the number of a selector
abbrev sel_of : ℕ → Sel
sel_of n = record { 0 = n }

pub selector_format : Format fields.selector (λ s. IsWord s.0) (λ s. b.word s.0)
selector_format = mapped sel_of (λ s. s.0) (λ s. IsWord s.0) word_format (λ n lt. (refl, lt)) (λ s lt. (refl, lt))

-- items behind their count
pub counted_format : {A : Type 0} {item : Reader A} {Good : A → Type 0} {bytes_of : A → List ℕ} → Format item Good bytes_of → Format (fields.counted item) (λ xs. IsWord (length xs) × All Good xs) (b.counted bytes_of)
unfolding fields.counted
counted_format format = field length word_format (λ n. times_format n format)
