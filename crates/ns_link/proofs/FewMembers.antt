-- In a program without faults the members of a class are few: those of each kind.
use Rattle.std.proofs.Common.{◌≡◌, ◌≤◌, ℕ, ◌+◌, List, [], length, refl, arith, length-append}
use Rattle.std.specs.Prelude.{map}
use Rattle.std.proofs.lemmas.List.{length-map}
use Rattle.ns_tree.specs.declared.tree.Access.{Access}
use Rattle.ns_tree.specs.declared.tree.Access.TheVariants as a
use Rattle.ns_tree.specs.Plain as p
use Rattle.ns_scope.specs.declared.names.Declared.{Declared}
use Rattle.ns_scope.specs.declared.scope.CodeSide.{CodeSide}
use Rattle.ns_scope.specs.declared.scope.CodeSide.TheVariants as side
use Rattle.ns_scope.specs.Bodies as b
use Rattle.ns_scope.specs.Names.{slot_members, bars_members, members_named, side_members, instance_members, class_members}
use Rattle.ns_static_rules.specs.declared.fault.StaticCause.TheVariants as c
use Rattle.ns_static_rules.specs.declared.fault.Many.TheVariants as many
use Rattle.ns_static_rules.specs.Rules.{members_found, found_repeated}
use Rattle.ns_resolved.specs.Classes.{Around, bars_slots, slots_of, members_nested, side_nested, methods_listed, side_listed, class_side_listed, class_count}
use Rattle.ns_link.proofs.Differ.{not_past}
use Rattle.ns_link.proofs.Faults.{empty_right}
use Rattle.ns_link.proofs.Statements.{bars_count, slots_count}

-- what is declared without faults is few
pub few_declared : (declared : List (Declared Access)) → members_found declared ≡ [] → length declared ≤ 1023
few_declared declared e =
    let few = not_past 1023 many.Members (map (λ (d : Declared Access). d.at) declared) (empty_right (found_repeated c.DuplicateMember [] declared) _ e) in
    omega (few, length-map declared (λ (d : Declared Access). d.at), arith)

-- ---- slots

slots_few : (slots : p.Slots) → slots_count slots ≤ length (slot_members slots)
slots_few p.no_slots = omega arith
slots_few (p.more_slots (p.slot_with access name (p.bare stop)) rest) = let h = slots_few rest in omega (h, arith)
slots_few (p.more_slots (p.slot_with access name (p.fixed value)) rest) = let h = slots_few rest in omega (h, arith)
slots_few (p.more_slots (p.slot_with access name (p.mutable value)) rest) = let h = slots_few rest in omega (h, arith)

bars_few : (bars : p.Bars) → bars_count bars ≤ length (bars_members bars)
bars_few p.no_bars = omega arith
bars_few (p.bars_around slots) = slots_few slots

slots_same : (slots : p.Slots) → length (slots_of slots) ≡ slots_count slots
slots_same p.no_slots = refl
slots_same (p.more_slots (p.slot_with access name init) rest) = let h = slots_same rest in omega (h, arith)

pub as_many_slots : (bars : p.Bars) → length (bars_slots bars) ≡ bars_count bars
as_many_slots p.no_bars = refl
as_many_slots (p.bars_around slots) = slots_same slots

pub few_slots : (bars : p.Bars) (members : p.Side) → members_found (instance_members bars members) ≡ [] → bars_count bars ≤ 1023
few_slots bars members e =
    let few = few_declared (instance_members bars members) e in
    let slots = bars_few bars in
    omega (few, slots, length-append (bars_members bars) (side_members a.Protected members), arith)

-- ---- nested classes and methods

-- a member is a class or a method
members_counted : (members : p.Members) (around : Around) (side : CodeSide) (number next : ℕ) (other : Access) →
    length (members_nested number members) + length (methods_listed around side next other members) ≡ length (members_named other members)
members_counted p.no_members around side number next other = refl
members_counted (p.more_members (p.member_with categories access (p.class_member (p.class_with name factory clause bars body members others))) rest)
    around side number next other =
    let class = p.class_with name factory clause bars body members others in
    let h = members_counted rest around side (number + class_count class) (next + 0) other in
    omega (h, arith)
members_counted (p.more_members (p.member_with categories access (p.method_member (p.method_with (p.pattern_with parts params) bars body))) rest)
    around side number next other =
    let method = p.method_member (p.method_with (p.pattern_with parts params) bars body) in
    let h = members_counted rest around side (number + 0) (next + length (b.member_methods around.classes side method)) other in
    omega (h, arith)

side_counted : (members : p.Side) (around : Around) (side : CodeSide) (number next : ℕ) (other : Access) →
    length (side_nested number members) + length (side_listed around side next other members) ≡ length (side_members other members)
side_counted (p.side_with members tail) around side number next other = members_counted members around side number next other

pub few_nested : (bars : p.Bars) (members : p.Side) (around : Around) (number next : ℕ) →
    members_found (instance_members bars members) ≡ [] →
    length (side_nested number members) ≤ 1023
few_nested bars members around number next e =
    let few = few_declared (instance_members bars members) e in
    let counted = side_counted members around side.Instance number next a.Protected in
    omega (few, counted, length-append (bars_members bars) (side_members a.Protected members), arith)

pub few_methods : (bars : p.Bars) (members : p.Side) (around : Around) (number next : ℕ) →
    members_found (instance_members bars members) ≡ [] →
    length (side_listed around side.Instance next a.Protected members) ≤ 1023
few_methods bars members around number next e =
    let few = few_declared (instance_members bars members) e in
    let counted = side_counted members around side.Instance number next a.Protected in
    omega (few, counted, length-append (bars_members bars) (side_members a.Protected members), arith)

pub few_side_methods : (others : p.ClassSide) (around : Around) (next : ℕ) → members_found (class_members others) ≡ [] →
    length (class_side_listed around next others) ≤ 1023
few_side_methods p.no_class_side around next e = omega arith
few_side_methods (p.class_side_with others) around next e =
    let few = few_declared (class_members (p.class_side_with others)) e in
    let counted = side_counted others around side.Class 0 next a.Public in
    omega (few, counted, arith)
