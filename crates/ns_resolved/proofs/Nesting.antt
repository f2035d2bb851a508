-- Each class stands in an earlier one, or in none, and each nested class has the class around it.
use Rattle.std.proofs.Common.{◌≡◌, ◌<◌, ℕ, zero, suc, ◌+◌, List, [], ◌∷◌, ◌++◌, length, refl, ap, ◌∙◌, subst, arith}
use Rattle.std.specs.Prelude.{Option, Some, None, slice_get}
use Rattle.std.specs.Option.{option_map_or}
use Rattle.std.proofs.lemmas.Option.{same_Some}
use Rattle.ns_base.specs.declared.place.Place.{Place}
use Rattle.ns_tree.specs.Plain as p
use Rattle.ns_scope.specs.Bodies as b
use Rattle.ns_resolved.specs.Program as m
use Rattle.ns_resolved.specs.Classes.{Around, in_file, within, clause_number, declaration_of, class_declared, side_declared, members_declared, member_declared}
use Rattle.ns_resolved.specs.Classes.{what_declared, class_count, member_count, side_nested, members_nested, meant_of, units_declared}
use Rattle.ns_resolved.specs.Right.{StandsIn, HaveNested, IsNested}
use Rattle.ns_resolved.specs.laws.Sits.{Sits, sits_left, sits_right, sits_first, sits_behind}
use Rattle.ns_resolved.specs.laws.Counting.{class_listed, member_listed}

-- ---- each class of a list is nested right

abbrev AreNested : m.Meant → ℕ → List m.Declaration → Type 0
AreNested meant n [] = Unit {0}
AreNested meant n (class ∷ classes) = IsNested meant n class × AreNested meant (n + 1) classes

nested_both : (meant : m.Meant) (n count : ℕ) (a b : List m.Declaration) → length a ≡ count → AreNested meant n a →
    AreNested meant (n + count) b →
    AreNested meant n (a ++ b)
nested_both meant n count [] b h left right = let z : n + count ≡ n = let f : 0 ≡ count = h in omega (f, arith) in subst (λ j. AreNested meant j b) z right
nested_both meant n zero (class ∷ a) b h left right = absurd (let f : suc (length a) ≡ 0 = h in omega (f, arith))
nested_both meant n (suc count) (class ∷ a) b h left right =
    let same : length a ≡ count = let f : suc (length a) ≡ suc count = h in omega (f, arith) in
    let z : n + suc count ≡ n + 1 + count = omega arith in
    (left.0, nested_both meant (n + 1) count a b same left.1 (subst (λ j. AreNested meant j b) z right))

nested_at : (meant : m.Meant) (n k : ℕ) (classes : List m.Declaration) (class : m.Declaration) → AreNested meant n classes →
    slice_get classes k ≡ Some class →
    IsNested meant (k + n) class
nested_at meant n k [] class nested e = absurd (let f : None ≡ Some class = e in cc)
nested_at meant n zero (first ∷ classes) class nested e =
    let z : n ≡ 0 + n = omega arith in subst (λ j. IsNested meant j class) z (subst (IsNested meant n) (same_Some first class e) nested.0)
nested_at meant n (suc k) (first ∷ classes) class nested e =
    let z : k + (n + 1) ≡ suc k + n = omega arith in subst (λ j. IsNested meant j class) z (nested_at meant (n + 1) k classes class nested.1 e)

-- ---- the walk

-- the declaration around stands before this number
abbrev OuterBefore : Option ℕ → ℕ → Type 0
OuterBefore None number = Unit {0}
OuterBefore (Some outer) number = outer < number

further : (outer : Option ℕ) (number more : ℕ) → OuterBefore outer number → OuterBefore outer (number + more)
further None number more h = tt
further (Some outer) number more h = omega (h, arith)

module _ (meant : m.Meant) where
  -- the first of a class's declarations is its own, which has the class around it
  first_outer : (class : p.Class) (around : Around) (number next : ℕ) → Sits meant.classes number (class_declared around number next class) →
      (inner : m.Declaration) × (slice_get meant.classes number ≡ Some inner) × (inner.outer ≡ around.outer)
  first_outer (p.class_with name factory clause bars body members others) around number next sits =
      let class = p.class_with name factory clause bars body members others in
      (declaration_of around number next class, sits_first meant.classes number _ _ sits, refl)

  nested_there : (members : p.Members) (around : Around) (outer number next : ℕ) → around.outer ≡ Some outer →
      Sits meant.classes number (members_declared around number next members) → HaveNested meant outer (members_nested number members)
  nested_there p.no_members around outer number next e sits = tt
  nested_there (p.more_members (p.member_with categories access (p.class_member class)) rest) around outer number next e sits =
      let rest_next = next + length (b.class_bodies around.classes class) in
      let here = class_declared around number next class in
      let behind = members_declared around (number + class_count class) rest_next rest in
      let first = first_outer class around number next (sits_left meant.classes number here behind sits) in (
        (first.0, first.1, first.2 ∙ e),
        nested_there rest around outer (number + class_count class) rest_next e
            (sits_right meant.classes number (class_count class) here behind (class_listed class around number next) sits),
      )
  nested_there (p.more_members (p.member_with categories access (p.method_member method)) rest) around outer number next e sits =
      nested_there rest around outer (number + 0) (next + 0) e
      (sits_right meant.classes number 0 [] (members_declared around (number + 0) (next + 0) rest) refl sits)

  side_there : (members : p.Side) (around : Around) (outer number next : ℕ) → around.outer ≡ Some outer →
      Sits meant.classes number (side_declared around number next members) → HaveNested meant outer (side_nested number members)
  side_there (p.side_with members tail) around outer number next e sits = nested_there members around outer number next e sits

  -- a class that stands in no other has no clause
  clause_none : (clause : Option p.SuperClause) (around : Around) (next : ℕ) → around.outer ≡ None → clause_number around next clause ≡ None
  clause_none None around next e = refl
  clause_none (Some clause) around next e = ap (λ o. option_map_or (λ outer. Some next) o None) e

  place_right : (outer : Option ℕ) (number : ℕ) (class : m.Declaration) → (outer ≡ None → class.clause ≡ None) → OuterBefore outer number → StandsIn number class outer
  place_right None number class none h = none refl
  place_right (Some outer) number class none h = h

  mutual
    class_nested : (class : p.Class) (around : Around) (number next : ℕ) → OuterBefore around.outer number →
        Sits meant.classes number (class_declared around number next class) → AreNested meant number (class_declared around number next class)
    class_nested (p.class_with name factory clause bars body members others) around number next h sits =
        let class = p.class_with name factory clause bars body members others in
        let inner = within around number class in
        let inner_next = next + length (b.clause_bodies around.classes clause) + length (b.own_bodies inner.classes class) in
        let here = declaration_of around number next class in
        let behind = sits_behind meant.classes number here (side_declared inner (number + 1) inner_next members) sits in
        let before : number < number + 1 = omega arith in (
          record {
            place = place_right around.outer number here (clause_none clause around next) h;
            nested = side_there members inner number (number + 1) inner_next refl behind;
          },
          all_nested members inner (number + 1) inner_next before behind,
        )

    all_nested : (members : p.Side) (around : Around) (number next : ℕ) → OuterBefore around.outer number →
        Sits meant.classes number (side_declared around number next members) → AreNested meant number (side_declared around number next members)
    all_nested (p.side_with members tail) around number next h sits = members_are_nested members around number next h sits

    members_are_nested : (members : p.Members) (around : Around) (number next : ℕ) → OuterBefore around.outer number →
        Sits meant.classes number (members_declared around number next members) → AreNested meant number (members_declared around number next members)
    members_are_nested p.no_members around number next h sits = tt
    members_are_nested (p.more_members member rest) around number next h sits =
        let rest_next = next + length (b.member_nested around.classes member) in
        let here = member_declared around number next member in
        let behind = members_declared around (number + member_count member) rest_next rest in
        let counted = member_listed member around number next in
        nested_both meant number (member_count member) here behind counted
        (member_is_nested member around number next h (sits_left meant.classes number here behind sits))
        (members_are_nested rest around (number + member_count member) rest_next (further around.outer number (member_count member) h)
        (sits_right meant.classes number (member_count member) here behind counted sits))

    member_is_nested : (member : p.Member) (around : Around) (number next : ℕ) → OuterBefore around.outer number →
        Sits meant.classes number (member_declared around number next member) → AreNested meant number (member_declared around number next member)
    member_is_nested (p.member_with categories access what) around number next h sits = what_is_nested what around number next h sits

    what_is_nested : (what : p.What) (around : Around) (number next : ℕ) → OuterBefore around.outer number →
        Sits meant.classes number (what_declared around number next what) → AreNested meant number (what_declared around number next what)
    what_is_nested (p.class_member class) around number next h sits = class_nested class around number next h sits
    what_is_nested (p.method_member method) around number next h sits = tt

  units_nested : (units : List p.SourceUnit) (marks : List (List Place)) (number next : ℕ) →
      Sits meant.classes number (units_declared number next units marks) → AreNested meant number (units_declared number next units marks)
  units_nested [] marks number next sits = tt
  units_nested (unit ∷ units) [] number next sits = tt
  units_nested (p.unit_with marker category class ∷ units) (places ∷ marks) number next sits =
      let rest_next = next + length (b.class_bodies [] class) in
      let here = class_declared (in_file places) number next class in
      let behind = units_declared (number + class_count class) rest_next units marks in
      let counted = class_listed class (in_file places) number next in
      nested_both meant number (class_count class) here behind counted
      (class_nested class (in_file places) number next tt (sits_left meant.classes number here behind sits))
      (units_nested units marks (number + class_count class) rest_next (sits_right meant.classes number (class_count class) here behind counted sits))

pub classes_nested : (files : List (List ℕ)) (units : List p.SourceUnit) (marks : List (List Place)) (number : ℕ) (class : m.Declaration) →
    slice_get (meant_of files units marks).classes number ≡ Some class → IsNested (meant_of files units marks) number class
classes_nested files units marks number class here =
    let meant = meant_of files units marks in
    let z : number + 0 ≡ number = omega arith in
    subst (λ n. IsNested meant n class) z
    (nested_at meant 0 number meant.classes class
    (units_nested meant units marks 0 0 (λ k other f. let y : k ≡ k + 0 = omega arith in subst (λ n. slice_get meant.classes n ≡ Some other) y f))
    here)
