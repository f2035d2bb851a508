-- How many faults were counted, and which were listed.
use Rattle.std.proofs.Common.{◌≡◌, ◌∙◌, ap, ℕ, ◌-◌, ◌^◌, ◌≤◌, min, List, [], length, arith}
use Rattle.ns_static_rules.specs.declared.fault.Placed.{Placed}
use Rattle.ns_static_rules.specs.declared.kept.Kept.{Kept}
use Rattle.ns_static_rules.specs.declared.kept.Kept.TheVariants as k
use Rattle.ns_static_rules.specs.Listing.{Listed}
use Rattle.ns_static_rules.specs.Keeping.{keep_all, count_kept, list_kept}

below_most : (count length : ℕ) → count ≡ min length (2 ^ 64 - 1) → (count ≡ 18446744073709551615 → ⊥) → count ≡ length
below_most count length h k = omega (arith, h, k)

pub counted_all : (faults : List Placed) (kept : Kept) (count : ℕ) →
    count_kept (keep_all (k.Counted 0) faults) ≡ min (length faults) (2 ^ 64 - 1) → kept ≡ keep_all (k.Counted 0) faults → count ≡ count_kept kept →
    (count ≡ 18446744073709551615 → ⊥) → count ≡ length faults
counted_all faults kept count law h e q = below_most count (length faults) (e ∙ (ap count_kept h ∙ law)) q

pub listed_all : (faults : List Placed) (room : Listed) (kept : Kept) (count : ℕ) →
    (length faults ≤ count → list_kept (keep_all (k.Listed (record { faults = []; left = count })) faults) ≡ faults) → room ≡ record { faults = []; left = count } → count ≡ length faults →
    kept ≡ keep_all (k.Listed room) faults → list_kept kept ≡ faults
listed_all faults room kept count law e h q =
    ap list_kept q ∙ (ap (λ r. list_kept (keep_all (k.Listed r) faults)) e ∙ law (omega (arith, h)))
