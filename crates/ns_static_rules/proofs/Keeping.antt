-- What is kept of many faults.
use Rattle.std.proofs.Common.{◌≡◌, ◌∙◌, refl, sym, ℕ, zero, suc, ◌+◌, ◌-◌, ◌^◌, ◌≤◌, min, List, [], ◌∷◌, ◌++◌, length, append-nil, append_assoc, arith, Option, fold}
use Rattle.ns_static_rules.specs.declared.fault.Placed.{Placed}
use Rattle.ns_static_rules.specs.declared.kept.Kept.TheVariants as k
use Rattle.ns_static_rules.specs.Least.{earlier}
use Rattle.ns_static_rules.specs.Listing.{Listed}
use Rattle.ns_static_rules.specs.Keeping.{keep_all, least_kept, count_kept, list_kept, one_more}

pub least_of_all : (least : Option Placed) (faults : List Placed) → least_kept (keep_all (k.Least least) faults) ≡ fold earlier least faults
least_of_all least [] = refl
least_of_all least (x ∷ faults) = least_of_all (earlier least x) faults

counted_more : (count : ℕ) (faults : List Placed) → count ≤ 2 ^ 64 - 1 → count_kept (keep_all (k.Counted count) faults) ≡ min (count + length faults) (2 ^ 64 - 1)
counted_more count [] h = omega arith
counted_more count (x ∷ faults) h = omega (arith, counted_more (one_more count) faults (omega arith))

pub count_of_all : (faults : List Placed) → count_kept (keep_all (k.Counted 0) faults) ≡ min (length faults) (2 ^ 64 - 1)
count_of_all faults = omega (arith, counted_more 0 faults (omega arith))

listed_more : (left : ℕ) (before faults : List Placed) → length faults ≤ left → list_kept (keep_all (k.Listed (record { faults = before; left = left })) faults) ≡ before ++ faults
listed_more left before [] h = sym (append-nil before)
listed_more zero before (x ∷ faults) h = absurd (omega arith)
listed_more (suc left) before (x ∷ faults) h = listed_more left (before ++ x ∷ []) faults (omega arith) ∙ append_assoc before (x ∷ []) faults

pub list_of_all : (left : ℕ) (faults : List Placed) → length faults ≤ left → list_kept (keep_all (k.Listed (record { faults = []; left = left })) faults) ≡ faults
list_of_all left faults h = listed_more left [] faults h
