-- A number without faults is an integer of 64 bits.
use Rattle.std.proofs.Common.{◌≡◌, ◌≢◌, ◌<◌, ◌≤◌, ℕ, zero, suc, [], ◌^◌, inl, inr, sym, ◌∙◌, arith}
use Rattle.std.specs.Prelude.{Bool, true, false, nat_eq, ◌⊎◌, FitsSigned}
use Rattle.std.specs.Int.{w64}
use Rattle.std.proofs.lemmas.Bool.Decides.{eqb_tells}
use Rattle.ns_static_rules.specs.declared.fault.StaticCause.TheVariants as c
use Rattle.ns_static_rules.specs.Rules.{number_found}
use Rattle.ns_resolved.specs.Expressions.{integer_of}
use Rattle.ns_link.proofs.Differ.{if_none}

less : (size : ℕ) → nat_eq size 9223372036854775808 ≡ false → size ≤ 9223372036854775808 → size < 2 ^ 63
less size e few = by (eqb_tells size 9223372036854775808) where
  by : ((nat_eq size 9223372036854775808 ≡ true) × (size ≡ 9223372036854775808)) ⊎ ((nat_eq size 9223372036854775808 ≡ false) × (size ≢ 9223372036854775808)) →
      size < 2 ^ 63
  by (inl same) = absurd (let f : true ≡ false = sym same.0 ∙ e in cc)
  by (inr other) = omega (few, other.1, arith)

pub integer_fits : (minus : Bool) (size at : ℕ) → number_found minus size at ≡ [] → size ≤ 9223372036854775808 →
    FitsSigned w64 (integer_of minus size)
integer_fits true zero at e few = record { sfits = omega arith }
integer_fits true (suc n) at e few = record { sfits = omega (few, arith) }
integer_fits false size at e few = record { sfits = less size (if_none (nat_eq size 9223372036854775808) at c.PlainTooLarge e) few }
