-- What a walk keeps of the faults that it finds: the least, or how many there are, or each, while there is room.
use Rattle.std.specs.Prelude.{ℕ, zero, suc, ◌+◌, ◌-◌, ◌^◌, List, [], ◌∷◌, ◌++◌, fold, min, Option, None}
use Rattle.ns_static_rules.specs.declared.fault.Placed.{Placed}
use Rattle.ns_static_rules.specs.declared.kept.Kept.{Kept}
use Rattle.ns_static_rules.specs.declared.kept.Kept.TheVariants as k
use Rattle.ns_static_rules.specs.Least.{earlier}
use Rattle.ns_static_rules.specs.Listing.{Listed}

abbrev put_while : ℕ → List Placed → Placed → Listed
put_while zero faults fault = record { faults = faults; left = zero }
put_while (suc left) faults fault = record { faults = faults ++ fault ∷ []; left = left }

-- a fault more, while there is room for it
abbrev pub put_in : Listed → Placed → Listed
put_in listed fault = put_while listed.left listed.faults fault

-- one more, of which there are no more than a number of 64 bits can say
abbrev pub one_more : ℕ → ℕ
one_more count = min (count + 1) (2 ^ 64 - 1)

-- what is kept when a fault was found too
abbrev pub keep : Kept → Placed → Kept
keep (k.Least least) fault = k.Least (earlier least fault)
keep (k.Counted count) fault = k.Counted (one_more count)
keep (k.Listed listed) fault = k.Listed (put_in listed fault)

-- what is kept when these were found too
abbrev pub keep_all : Kept → List Placed → Kept
keep_all kept faults = fold keep kept faults

-- the least fault, where that is kept
abbrev pub least_kept : Kept → Option Placed
least_kept (k.Least least) = least
least_kept (k.Counted count) = None
least_kept (k.Listed listed) = None

-- how many faults there are, where that is kept
abbrev pub count_kept : Kept → ℕ
count_kept (k.Least least) = 0
count_kept (k.Counted count) = count
count_kept (k.Listed listed) = 0

-- the faults, where they are kept
abbrev pub list_kept : Kept → List Placed
list_kept (k.Least least) = []
list_kept (k.Counted count) = []
list_kept (k.Listed listed) = listed.faults
