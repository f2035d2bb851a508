-- The first of all faults is the least.
use Rattle.std.proofs.Common.{◌≡◌, inl, inr, refl, subst, ap, Bool, false, List, [], ◌∷◌, Option, Some, None}
use Rattle.ns_scope.specs.declared.program.Program.{Program}
use Rattle.ns_static_rules.specs.declared.fault.Placed.{Placed}
use Rattle.ns_static_rules.specs.Least.{comes_before, least, order_of}
use Rattle.ns_static_rules.specs.LeastOf.{IsAmong, NoneBefore, IsLeastOf}
use Rattle.ns_static_rules.specs.laws.Order.{least_is_least, not_both}
use Rattle.ns_static.specs.Check.{fault_of, faults_of}
use Rattle.ns_static_all.specs.All.{all_faults}
use Rattle.ns_static_all.specs.InOrder.{in_order}
use Rattle.ns_static_all.specs.Ascending.{IsOneOf, Ascends, AreAmong, AreAllOf, first_of}
use Rattle.ns_static_all.proofs.Alike.{four_numbers, same_fault}
use Rattle.ns_static_all.specs.lemmas.Same.{before_each}
use Rattle.ns_static_all.specs.laws.Telling.{all_of_them}

abbrev before : Placed → Placed → Bool
before x y = comes_before (order_of x) (order_of y)

one_of_them : (xs : List Placed) (fault : Placed) → IsAmong xs fault → IsOneOf xs fault
one_of_them [] fault h = h
one_of_them (x ∷ xs) fault (inl e) = inl e
one_of_them (x ∷ xs) fault (inr h) = inr (one_of_them xs fault h)

none_before_it : (xs : List Placed) (fault other : Placed) → NoneBefore xs fault → IsOneOf xs other → before other fault ≡ false
none_before_it [] fault other h k = absurd k
none_before_it (x ∷ xs) fault other (h, rest) (inl e) = subst (λ w. before w fault ≡ false) e h
none_before_it (x ∷ xs) fault other (h, rest) (inr k) = none_before_it xs fault other rest k

is_first : (told faults : List Placed) (fault : Placed) → Ascends order_of told → AreAmong told faults → IsOneOf told fault → NoneBefore faults fault →
    first_of told ≡ Some fault
is_first [] faults fault up p q h = absurd q
is_first (x ∷ told) faults fault (k, up) p (inl e) h = ap Some e
is_first (x ∷ told) faults fault (k, up) p (inr q) h =
    absurd (not_both (before x fault) (before_each order_of x fault told k q) (none_before_it faults fault x h (p x (inl refl))))

all_of_faults : (faults : List Placed) → AreAllOf order_of faults (in_order order_of faults)
all_of_faults faults = all_of_them order_of 4 four_numbers same_fault faults

first_is : (faults : List Placed) (o : Option Placed) → IsLeastOf faults o → first_of (in_order order_of faults) ≡ o
first_is faults None h = ap (λ xs. first_of (in_order order_of xs)) h
first_is faults (Some fault) (at, none_before) =
    let all = all_of_faults faults in
    is_first (in_order order_of faults) faults fault all.ascends all.are_items (all.none_missing fault (one_of_them faults fault at)) none_before

pub first_is_least : (program : Program) → first_of (all_faults program) ≡ fault_of program
first_is_least program = first_is (faults_of program) (least (faults_of program)) (least_is_least (faults_of program))

pub all_are_told : (program : Program) → AreAllOf order_of (faults_of program) (all_faults program)
all_are_told program = all_of_faults (faults_of program)
