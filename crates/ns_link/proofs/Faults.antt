-- Where a program has no least fault, none of its classes has a fault.
use Rattle.std.proofs.Common.{◌≡◌, ℕ, ◌+◌, List, [], ◌∷◌, ◌++◌, length, refl}
use Rattle.std.specs.Prelude.{Bool, true, false, Some, None, map, fold, zip, if◌then◌else◌}
use Rattle.ns_base.specs.declared.place.Place.{Place}
use Rattle.ns_tree.specs.Plain as p
use Rattle.ns_scope.specs.declared.scope.ClassScope.{ClassScope}
use Rattle.ns_scope.specs.declared.scope.CodeSide.TheVariants as side
use Rattle.ns_scope.specs.Scopes.{class_scope}
use Rattle.ns_scope.specs.Table.{TableOf}
use Rattle.ns_scope.specs.Whole.{AreWholeUnits}
use Rattle.ns_static_rules.specs.declared.fault.Placed.{Placed}
use Rattle.ns_static_rules.specs.Rules.{top_name_found}
use Rattle.ns_static_rules.specs.Faults.{class_found, initialiser_faults, side_faults, class_side_faults, members_faults, what_faults, class_faults}
use Rattle.ns_static_rules.specs.Faults.{classes_found, class_name, class_names, unit_faults}
use Rattle.ns_static_rules.specs.Least.{earlier, least, comes_before, order_of, placed, with_top, faults_behind, faults}
use Rattle.ns_link.specs.Each.{EachClass, EachSide, EachMember, EachWhat, EachUnit}
use Rattle.ns_link.specs.Faultless.{Faultless}

-- ---- empty lists

pub empty_left : {A : Type 0} → (a b : List A) → a ++ b ≡ [] → a ≡ []
empty_left [] b e = refl
empty_left (x ∷ a) b e = absurd (let f : x ∷ (a ++ b) ≡ [] = e in cc)

pub empty_right : {A : Type 0} → (a b : List A) → a ++ b ≡ [] → b ≡ []
empty_right [] b e = e
empty_right (x ∷ a) b e = absurd (let f : x ∷ (a ++ b) ≡ [] = e in cc)

pub empty_map : {A B : Type 0} → (f : A → B) (a : List A) → map f a ≡ [] → a ≡ []
empty_map f [] e = refl
empty_map f (x ∷ a) e = absurd (let g : f x ∷ map f a ≡ [] = e in cc)

-- ---- the least fault

some_stays : (found : List Placed) (fault : Placed) → fold earlier (Some fault) found ≡ None → ⊥
some_stays [] fault e = absurd (let f : Some fault ≡ None = e in cc)
some_stays (other ∷ found) fault e = by (comes_before (order_of other) (order_of fault)) (some_stays found) e where
  by : (before : Bool) → ((fault : Placed) → fold earlier (Some fault) found ≡ None → ⊥) →
      fold earlier (if before then Some other else Some fault) found ≡ None → ⊥
  by true further e = further other e
  by false further e = further fault e

pub none_found : (found : List Placed) → least found ≡ None → found ≡ []
none_found [] e = refl
none_found (fault ∷ found) e = absurd (some_stays found fault e)

-- ---- classes

mutual
  class_faultless : (class : p.Class) (outer : List ClassScope) → class_faults outer class ≡ [] → EachClass Faultless outer class
  class_faultless (p.class_with name factory clause bars body members others) outer e =
      let class = p.class_with name factory clause bars body members others in
      let classes = class_scope class ∷ outer in
      let own = initialiser_faults classes factory clause bars body in
      let sides = side_faults classes side.Instance members ++ class_side_faults classes others in (
        e,
        side_faultless members classes
            (empty_left (side_faults classes side.Instance members) (class_side_faults classes others) (empty_right own sides (empty_right (class_found outer class) (own ++ sides) e))),
      )

  side_faultless : (members : p.Side) (classes : List ClassScope) → side_faults classes side.Instance members ≡ [] → EachSide Faultless classes members
  side_faultless (p.side_with members tail) classes e = members_faultless members classes e

  members_faultless : (members : p.Members) (classes : List ClassScope) → members_faults classes side.Instance members ≡ [] →
      EachMember Faultless classes members
  members_faultless p.no_members classes e = tt
  members_faultless (p.more_members (p.member_with categories access what) rest) classes e = (
    what_faultless what classes (empty_left (what_faults classes side.Instance what) (members_faults classes side.Instance rest) e),
    members_faultless rest classes (empty_right (what_faults classes side.Instance what) (members_faults classes side.Instance rest) e),
  )

  what_faultless : (what : p.What) (classes : List ClassScope) → what_faults classes side.Instance what ≡ [] → EachWhat Faultless classes what
  what_faultless (p.class_member class) classes e = class_faultless class classes e
  what_faultless (p.method_member method) classes e = tt

pub class_alone : (class : p.Class) (outer : List ClassScope) → EachClass Faultless outer class → class_faults outer class ≡ []
class_alone (p.class_with name factory clause bars body members others) outer each = each.0

-- ---- units

units_faultless : (number : ℕ) (units : List p.SourceUnit) (marks : List (List Place)) (seen : TableOf ℕ) (before : ℕ) →
    AreWholeUnits number units marks → faults_behind seen before (zip units marks) ≡ [] → EachUnit Faultless units
units_faultless number [] marks seen before whole e = tt
units_faultless number (unit ∷ units) [] seen before whole e = absurd whole
units_faultless number (p.unit_with marker category class ∷ units) (places ∷ marks) seen before whole e =
    let unit = p.unit_with marker category class in
    let here = map (placed places) (unit_faults seen before class) in
    let behind = faults_behind (with_top seen (class_name class)) (before + length (class_names class)) (zip units marks) in
    let first = empty_map (placed places) (unit_faults seen before class) (empty_left here behind e) in
    let own = empty_right (classes_found before (class_names class)) (class_faults [] class)
    (empty_right (top_name_found seen (class_name class)) (classes_found before (class_names class) ++ class_faults [] class) first) in (
      class_faultless class [] own,
      units_faultless (number + 1) units marks (with_top seen (class_name class)) (before + length (class_names class)) whole.1 (empty_right here behind e),
    )

pub program_faultless : (units : List p.SourceUnit) (marks : List (List Place)) → AreWholeUnits 0 units marks →
    least (faults units marks) ≡ None →
    EachUnit Faultless units
program_faultless units marks whole e = units_faultless 0 units marks [] 0 whole (none_found (faults units marks) e)
