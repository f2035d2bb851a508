-- In a program without faults the parameters of a class are few, and its members are different.
use Rattle.std.proofs.Common.{◌≡◌, ◌<◌, ℕ, ◌+◌, List, [], ◌∷◌, ◌++◌, length, refl, ap, ◌∙◌, subst, arith}
use Rattle.std.specs.Prelude.{true, Some, None, map, flat_map, slice_get}
use Rattle.std.specs.Option.{option_map_or}
use Rattle.std.proofs.lemmas.List.{length-map, map-append}
use Rattle.ns_base.specs.declared.place.Place.{Place}
use Rattle.ns_tree.specs.declared.tree.Access.{Access}
use Rattle.ns_tree.specs.declared.tree.Access.TheVariants as a
use Rattle.ns_tree.specs.declared.tree.Named.{Named}
use Rattle.ns_tree.specs.Plain as p
use Rattle.ns_scope.specs.declared.names.Declared.{Declared}
use Rattle.ns_scope.specs.declared.scope.CodeSide.{CodeSide}
use Rattle.ns_scope.specs.declared.scope.CodeSide.TheVariants as side
use Rattle.ns_scope.specs.Names.{slot_members, bars_members, members_named, instance_members, class_members}
use Rattle.ns_scope.specs.Scopes.{factory_params}
use Rattle.ns_scope.specs.Bodies as b
use Rattle.ns_scope.specs.Whole.{AreWholeUnits}
use Rattle.ns_code.specs.Soundness.{are_different}
use Rattle.ns_static_rules.specs.declared.fault.StaticCause.TheVariants as c
use Rattle.ns_static_rules.specs.declared.fault.Many.TheVariants as many
use Rattle.ns_static_rules.specs.Rules.{found_repeated, members_found, params_found}
use Rattle.ns_static_rules.specs.Faults.{head_faults, initialiser_faults, class_members_found, class_found, side_faults, class_side_faults}
use Rattle.ns_static_rules.specs.Least.{least, faults}
use Rattle.ns_resolved.specs.Program as m
use Rattle.ns_resolved.specs.There.{slot_selectors, nested_names}
use Rattle.ns_resolved.specs.Classes.{Around, within, slots_of, bars_slots, members_nested, side_nested, methods_listed, side_listed, class_side_listed}
use Rattle.ns_resolved.specs.Classes.{class_declared, side_declared, members_declared, declaration_of, class_count, meant_of}
use Rattle.ns_resolved.specs.laws.Counting.{class_listed}
use Rattle.ns_link.specs.Differ.{MembersDiffer}
use Rattle.ns_link.specs.Faultless.{Faultless}
use Rattle.ns_resolved.specs.laws.Sits.{Sits, sits_left, sits_right, sits_first, sits_behind}
use Rattle.ns_link.proofs.Walk.{Gives, classes_are}
use Rattle.ns_link.proofs.Faults.{empty_left, empty_right, program_faultless}
use Rattle.ns_link.proofs.Differ.{not_past, names_of, declared_differ}
use Rattle.ns_link.proofs.FewMembers.{as_many_slots, few_slots, few_nested, few_methods, few_side_methods}
use Rattle.ns_link.proofs.Members.{nested_of, methods_of, differ_apart, differ_further, side_differs}

-- ---- the names of slots, of nested classes and of methods

slots_same : (slots : p.Slots) → flat_map slot_selectors (slots_of slots) ≡ names_of (slot_members slots)
slots_same p.no_slots = refl
slots_same (p.more_slots (p.slot_with access name (p.bare stop)) rest) = ap (λ l. name.text ∷ (name.text ++ 58 ∷ []) ∷ l) (slots_same rest)
slots_same (p.more_slots (p.slot_with access name (p.fixed value)) rest) = ap (λ l. name.text ∷ l) (slots_same rest)
slots_same (p.more_slots (p.slot_with access name (p.mutable value)) rest) =
    ap (λ l. name.text ∷ (name.text ++ 58 ∷ []) ∷ l) (slots_same rest)

bars_same : (bars : p.Bars) → flat_map slot_selectors (bars_slots bars) ≡ names_of (bars_members bars)
bars_same p.no_bars = refl
bars_same (p.bars_around slots) = slots_same slots

methods_same : (members : p.Members) (around : Around) (side : CodeSide) (next : ℕ) (other : Access) →
    map (λ (method : m.Method). method.selector) (methods_listed around side next other members) ≡ methods_of members
methods_same p.no_members around side next other = refl
methods_same (p.more_members (p.member_with categories access (p.class_member class)) rest) around side next other =
    methods_same rest around side (next + 0) other
methods_same (p.more_members (p.member_with categories access (p.method_member (p.method_with (p.pattern_with parts params) bars body))) rest) around side next other =
    ap (λ l. flat_map (λ (part : Named). part.text) parts ∷ l)
    (methods_same rest around side (next + length (b.member_methods around.classes side (p.method_member (p.method_with (p.pattern_with parts params) bars body)))) other)

module _ (meant : m.Meant) where
  nested_same : (members : p.Members) (around : Around) (number next : ℕ) → Sits meant.classes number (members_declared around number next members) →
      nested_names meant (members_nested number members) ≡ nested_of members
  nested_same p.no_members around number next sits = refl
  nested_same (p.more_members (p.member_with categories access (p.class_member (p.class_with name factory clause bars body members others))) rest) around number next sits =
      let class = p.class_with name factory clause bars body members others in
      let rest_next = next + length (b.class_bodies around.classes class) in
      let here = class_declared around number next class in
      let behind = members_declared around (number + class_count class) rest_next rest in
      let first = sits_first meant.classes number _ _ (sits_left meant.classes number here behind sits) in
      let further = nested_names meant (members_nested (number + class_count class) rest) in
      ap (λ found. option_map_or (λ (inner : m.Declaration). inner.name ∷ further) found further) first
      ∙ ap (λ l. name.text ∷ l)
      (nested_same rest around (number + class_count class) rest_next
      (sits_right meant.classes number (class_count class) here behind (class_listed class around number next) sits))
  nested_same (p.more_members (p.member_with categories access (p.method_member method)) rest) around number next sits =
      nested_same rest around (number + 0) (next + 0) (sits_right meant.classes number 0 [] (members_declared around (number + 0) (next + 0) rest) refl sits)

  -- ---- the members of both sides

  instance_differs : (bars : p.Bars) (members : p.Side) (around : Around) (number next methods_next : ℕ) →
      found_repeated c.DuplicateMember [] (instance_members bars members) ≡ [] → Sits meant.classes number (side_declared around number next members) →
      are_different (flat_map slot_selectors (bars_slots bars) ++ (nested_names meant (side_nested number members)
      ++ map (λ (method : m.Method). method.selector) (side_listed around side.Instance methods_next a.Protected members))) ≡ true
  instance_differs bars (p.side_with members tail) around number next methods_next e sits =
      let slots = names_of (bars_members bars) in
      let named = map-append (λ (d : Declared Access). d.name) (bars_members bars) (members_named a.Protected members) in
      let differ = side_differs slots a.Protected members
      (subst (λ l. are_different l ≡ true) named (declared_differ c.DuplicateMember (instance_members bars (p.side_with members tail)) e)) in
      ap (λ l. are_different (l ++ (nested_names meant (members_nested number members)
      ++ map (λ (method : m.Method). method.selector) (methods_listed around side.Instance methods_next a.Protected members)))) (bars_same bars)
      ∙ ap (λ l. are_different (slots ++ (l ++ map (λ (method : m.Method). method.selector) (methods_listed around side.Instance methods_next a.Protected members))))
      (nested_same members around number next sits)
      ∙ ap (λ l. are_different (slots ++ (nested_of members ++ l))) (methods_same members around side.Instance methods_next a.Protected)
      ∙ differ

class_side_differs : (others : p.ClassSide) (around : Around) (next : ℕ) → found_repeated c.DuplicateMember [] (class_members others) ≡ [] →
    are_different (map (λ (method : m.Method). method.selector) (class_side_listed around next others)) ≡ true
class_side_differs p.no_class_side around next e = refl
class_side_differs (p.class_side_with (p.side_with members tail)) around next e =
    ap are_different (methods_same members around side.Class next a.Public)
    ∙ differ_further (nested_of members) (methods_of members)
    (differ_apart a.Public members (declared_differ c.DuplicateMember (members_named a.Public members) e))

few_params : (params : List Named) → params_found params ≡ [] → length params < 64
few_params params e =
    let few = not_past 63 many.Parameters (map (λ (param : Named). param.at) params) e in
    omega (few, length-map params (λ (param : Named). param.at), arith)

-- ---- a class

module _ (meant : m.Meant) where
  members_differ : Gives meant Faultless (MembersDiffer meant)
  members_differ (p.class_with name factory clause bars body members others) around number next h e classes bodies =
      let class = p.class_with name factory clause bars body members others in
      let inner = within around number class in
      let own_next = next + length (b.clause_bodies around.classes clause) in
      let inner_next = own_next + length (b.own_bodies inner.classes class) in
      let methods_next = own_next + length (b.initialiser_bodies inner.classes class) in
      let start = initialiser_faults inner.classes factory clause bars body in
      let sides = side_faults inner.classes side.Instance members ++ class_side_faults inner.classes others in
      let found = empty_left (class_found around.classes class) (start ++ sides) e in
      let both = empty_left (class_members_found class) (head_faults around.classes clause) found in
      let instances = instance_members bars members in
      let sides_members = class_members others in
      let first = empty_left (members_found instances) (members_found sides_members) both in
      let second = empty_right (members_found instances) (members_found sides_members) both in
      let started = empty_left start sides (empty_right (class_found around.classes class) (start ++ sides) e) in
      record {
        few_params = few_params (factory_params factory) (empty_left (params_found (factory_params factory)) _ started);
        members_differ = instance_differs meant bars members inner (number + 1) inner_next methods_next
            (empty_left (found_repeated c.DuplicateMember [] instances) _ first)
            (sits_behind meant.classes number (declaration_of around number next class) (side_declared inner (number + 1) inner_next members) classes);
        side_members_differ = class_side_differs others inner (methods_next + length (b.side_bodies inner.classes side.Instance members))
            (empty_left (found_repeated c.DuplicateMember [] sides_members) _ second);
        few =
            let slots = few_slots bars members first in
            let same = as_many_slots bars in
            record {
              few_slots = omega (slots, same, arith);
              few_nested = few_nested bars members inner (number + 1) methods_next first;
              few_methods = few_methods bars members inner (number + 1) methods_next first;
              few_side_methods = few_side_methods others inner (methods_next + length (b.side_bodies inner.classes side.Instance members)) second;
            };
      }

pub members_of_classes_differ : (files : List (List ℕ)) (units : List p.SourceUnit) (marks : List (List Place)) →
    AreWholeUnits 0 units marks →
    least (faults units marks) ≡ None → (number : ℕ) (class : m.Declaration) →
    slice_get (meant_of files units marks).classes number ≡ Some class → MembersDiffer (meant_of files units marks) number class
members_of_classes_differ files units marks whole e number class here =
    let meant = meant_of files units marks in
    classes_are files units marks Faultless (MembersDiffer meant) (members_differ meant) (program_faultless units marks whole e) number class here
