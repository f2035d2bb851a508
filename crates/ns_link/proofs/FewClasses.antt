-- A program without faults has few classes.
use Rattle.std.proofs.Common.{◌≡◌, ◌≤◌, ℕ, ◌+◌, List, [], ◌∷◌, ◌++◌, length, refl, arith, length-append}
use Rattle.std.specs.Prelude.{None, map, zip, nat_eq}
use Rattle.ns_base.specs.declared.place.Place.{Place}
use Rattle.ns_tree.specs.Plain as p
use Rattle.ns_scope.specs.Table.{TableOf}
use Rattle.ns_scope.specs.Whole.{AreWholeUnits}
use Rattle.ns_static_rules.specs.declared.fault.StaticCause.TheVariants as c
use Rattle.ns_static_rules.specs.declared.fault.Many.TheVariants as many
use Rattle.ns_static_rules.specs.Rules.{found_if, top_name_found}
use Rattle.ns_static_rules.specs.Faults.{class_names, side_names, members_names, what_names, classes_found, class_name, class_faults, unit_faults}
use Rattle.ns_static_rules.specs.Least.{least, faults, faults_behind, placed, with_top}
use Rattle.ns_resolved.specs.Classes.{class_count, side_count, members_count, what_count, units_count, meant_of}
use Rattle.ns_resolved.specs.laws.Counting.{units_listed}
use Rattle.ns_link.proofs.Classes.{as_many_marks}
use Rattle.ns_link.proofs.Differ.{if_none}
use Rattle.ns_link.proofs.Faults.{empty_left, empty_right, empty_map, none_found}

mutual
  names_counted : (class : p.Class) → length (class_names class) ≡ class_count class
  names_counted (p.class_with name factory clause bars body members others) = let h = side_counted members in omega (h, arith)

  side_counted : (members : p.Side) → length (side_names members) ≡ side_count members
  side_counted (p.side_with members tail) = members_counted members

  members_counted : (members : p.Members) → length (members_names members) ≡ members_count members
  members_counted p.no_members = refl
  members_counted (p.more_members (p.member_with categories access what) rest) =
      let h = what_counted what in
      let further = members_counted rest in
      omega (h, further, length-append (what_names what) (members_names rest), arith)

  what_counted : (what : p.What) → length (what_names what) ≡ what_count what
  what_counted (p.class_member class) = names_counted class
  what_counted (p.method_member method) = refl

-- where no class is one too many, there are few
few_names : (names : List ℕ) (before : ℕ) → before ≤ 4096 → classes_found before names ≡ [] → before + length names ≤ 4096
few_names [] before h e = omega (h, arith)
few_names (at ∷ names) before h e =
    let found = found_if (nat_eq before 4096) at (c.TooMany many.Classes) in
    let none = if_none (nat_eq before 4096) at (c.TooMany many.Classes) (empty_left found (classes_found (before + 1) names) e) in
    let other : before + 1 ≤ 4096 = grind (arith, none, h) in
    let further = few_names names (before + 1) other (empty_right found (classes_found (before + 1) names) e) in
    omega (further, arith)

units_few : (number : ℕ) (units : List p.SourceUnit) (marks : List (List Place)) (seen : TableOf ℕ) (before : ℕ) →
    AreWholeUnits number units marks →
    before ≤ 4096 → faults_behind seen before (zip units marks) ≡ [] → before + units_count units ≤ 4096
units_few number [] marks seen before whole h e = omega (h, arith)
units_few number (unit ∷ units) [] seen before whole h e = absurd whole
units_few number (p.unit_with marker category class ∷ units) (places ∷ marks) seen before whole h e =
    let here = map (placed places) (unit_faults seen before class) in
    let behind = faults_behind (with_top seen (class_name class)) (before + length (class_names class)) (zip units marks) in
    let first = empty_map (placed places) (unit_faults seen before class) (empty_left here behind e) in
    let names = empty_left (classes_found before (class_names class)) (class_faults [] class)
    (empty_right (top_name_found seen (class_name class)) (classes_found before (class_names class) ++ class_faults [] class) first) in
    let few = few_names (class_names class) before h names in
    let counted = names_counted class in
    let further = units_few (number + 1) units marks (with_top seen (class_name class)) (before + length (class_names class)) whole.1 few (empty_right here behind e) in
    omega (further, counted, arith)

pub few_classes : (files : List (List ℕ)) (units : List p.SourceUnit) (marks : List (List Place)) → AreWholeUnits 0 units marks →
    least (faults units marks) ≡ None → length (meant_of files units marks).classes ≤ 4096
few_classes files units marks whole e =
    let few = units_few 0 units marks [] 0 whole (omega arith) (none_found (faults units marks) e) in
    let listed = units_listed units marks 0 0 (as_many_marks 0 units marks whole) in
    omega (few, listed, arith)
