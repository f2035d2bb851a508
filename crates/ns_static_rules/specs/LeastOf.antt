-- Which fault of a list is its least one.
use Rattle.std.specs.Prelude.{◌≡◌, ◌⊎◌, false, List, [], ◌∷◌, Option, Some, None}
use Rattle.ns_static_rules.specs.declared.fault.Placed.{Placed}
use Rattle.ns_static_rules.specs.Least.{comes_before, order_of}

-- the fault is one of these
abbrev pub IsAmong : List Placed → Placed → Type 0
IsAmong [] fault = ⊥
IsAmong (x ∷ xs) fault = (x ≡ fault) ⊎ IsAmong xs fault

-- none of these comes before the fault
abbrev pub NoneBefore : List Placed → Placed → Type 0
NoneBefore [] fault = Unit {0}
NoneBefore (x ∷ xs) fault = (comes_before (order_of x) (order_of fault) ≡ false) × NoneBefore xs fault

-- There is no fault; or this is one, and none comes before it.
abbrev pub IsLeastOf : List Placed → Option Placed → Type 0
IsLeastOf faults None = faults ≡ []
IsLeastOf faults (Some fault) = IsAmong faults fault × NoneBefore faults fault
