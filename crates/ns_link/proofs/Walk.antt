-- What holds of each class, with its record and its bodies at their numbers, holds of all classes of a program.
use Rattle.std.proofs.Common.{◌≡◌, ℕ, ◌+◌, List, [], ◌∷◌, ◌++◌, length, subst, arith}
use Rattle.std.specs.Prelude.{Some, slice_get}
use Rattle.ns_base.specs.declared.place.Place.{Place}
use Rattle.ns_tree.specs.Plain as p
use Rattle.ns_scope.specs.declared.scope.ClassScope.{ClassScope}
use Rattle.ns_scope.specs.Bodies as b
use Rattle.ns_resolved.specs.Program as m
use Rattle.ns_resolved.specs.Classes.{Around, in_file, within, clause_bodies, own_bodies, class_bodies, nested_bodies, members_bodies, member_bodies}
use Rattle.ns_resolved.specs.Classes.{what_bodies, units_bodies, declaration_of, class_declared, side_declared, members_declared, member_declared}
use Rattle.ns_resolved.specs.Classes.{what_declared, units_declared, class_count, member_count, meant_of}
use Rattle.ns_resolved.specs.laws.Counting.{HasNumber, clause_counted, own_counted, class_counted, member_counted, class_listed, member_listed}
use Rattle.ns_link.specs.Each.{EachClass, EachSide, EachMember, EachIn, EachWhat, EachUnit}
use Rattle.ns_resolved.specs.laws.Sits.{Sits, sits_left, sits_right, sits_behind}
use Rattle.ns_link.proofs.Sits.{sits_itself, AreAll, all_both, all_at}

-- The record of a class has the property, where the class has another, and its record and its bodies sit in the program.
abbrev pub Gives : m.Meant → (List ClassScope → p.Class → Type 0) → (ℕ → m.Declaration → Type 0) → Type 0
Gives meant Has Is =
    (class : p.Class) (around : Around) (number next : ℕ) → HasNumber around.outer around.classes → Has around.classes class →
    Sits meant.classes number (class_declared around number next class) → Sits meant.bodies next (class_bodies around number next class) →
    Is number (declaration_of around number next class)

module _ (meant : m.Meant) (Has : List ClassScope → p.Class → Type 0) (Is : ℕ → m.Declaration → Type 0) (one : Gives meant Has Is) where
  mutual
    class_walked : (class : p.Class) (around : Around) (number next : ℕ) → HasNumber around.outer around.classes → EachClass Has around.classes class →
        Sits meant.classes number (class_declared around number next class) → Sits meant.bodies next (class_bodies around number next class) →
        AreAll Is number (class_declared around number next class)
    class_walked (p.class_with name factory clause bars body members others) around number next h each classes bodies =
        let class = p.class_with name factory clause bars body members others in
        let inner = within around number class in
        let clauses = length (b.clause_bodies around.classes clause) in
        let own_next = next + clauses in
        let owns = length (b.own_bodies inner.classes class) in
        let own = own_bodies inner number own_next class in
        let nested = nested_bodies inner (number + 1) (own_next + owns) members in
        let behind = sits_right meant.bodies next clauses (clause_bodies around next clause) (own ++ nested) (clause_counted clause around next h) bodies in (
          one class around number next h each.0 classes bodies,
          side_walked members inner (number + 1) (own_next + owns) tt each.1
              (sits_behind meant.classes number (declaration_of around number next class) (side_declared inner (number + 1) (own_next + owns) members) classes)
              (sits_right meant.bodies own_next owns own nested (own_counted class inner number own_next) behind),
        )

    side_walked : (members : p.Side) (around : Around) (number next : ℕ) → HasNumber around.outer around.classes → EachSide Has around.classes members →
        Sits meant.classes number (side_declared around number next members) → Sits meant.bodies next (nested_bodies around number next members) →
        AreAll Is number (side_declared around number next members)
    side_walked (p.side_with members tail) around number next h each classes bodies = members_walked members around number next h each classes bodies

    members_walked : (members : p.Members) (around : Around) (number next : ℕ) → HasNumber around.outer around.classes →
        EachMember Has around.classes members →
        Sits meant.classes number (members_declared around number next members) → Sits meant.bodies next (members_bodies around number next members) →
        AreAll Is number (members_declared around number next members)
    members_walked p.no_members around number next h each classes bodies = tt
    members_walked (p.more_members member rest) around number next h each classes bodies =
        let count = member_count member in
        let bodies_count = length (b.member_nested around.classes member) in
        let here = member_declared around number next member in
        let behind = members_declared around (number + count) (next + bodies_count) rest in
        let bodies_here = member_bodies around number next member in
        let bodies_behind = members_bodies around (number + count) (next + bodies_count) rest in
        let listed = member_listed member around number next in
        all_both Is number count here behind listed
        (member_walked member around number next h each.0 (sits_left meant.classes number here behind classes) (sits_left meant.bodies next bodies_here bodies_behind bodies))
        (members_walked rest around (number + count) (next + bodies_count) h each.1
        (sits_right meant.classes number count here behind listed classes)
        (sits_right meant.bodies next bodies_count bodies_here bodies_behind (member_counted member around number next h) bodies))

    member_walked : (member : p.Member) (around : Around) (number next : ℕ) → HasNumber around.outer around.classes → EachIn Has around.classes member →
        Sits meant.classes number (member_declared around number next member) → Sits meant.bodies next (member_bodies around number next member) →
        AreAll Is number (member_declared around number next member)
    member_walked (p.member_with categories access what) around number next h each classes bodies = what_walked what around number next h each classes bodies

    what_walked : (what : p.What) (around : Around) (number next : ℕ) → HasNumber around.outer around.classes → EachWhat Has around.classes what →
        Sits meant.classes number (what_declared around number next what) → Sits meant.bodies next (what_bodies around number next what) →
        AreAll Is number (what_declared around number next what)
    what_walked (p.class_member class) around number next h each classes bodies = class_walked class around number next h each classes bodies
    what_walked (p.method_member method) around number next h each classes bodies = tt

  units_walked : (units : List p.SourceUnit) (marks : List (List Place)) (number next : ℕ) → EachUnit Has units →
      Sits meant.classes number (units_declared number next units marks) → Sits meant.bodies next (units_bodies number next units marks) →
      AreAll Is number (units_declared number next units marks)
  units_walked [] marks number next each classes bodies = tt
  units_walked (unit ∷ units) [] number next each classes bodies = tt
  units_walked (p.unit_with marker category class ∷ units) (places ∷ marks) number next each classes bodies =
      let count = class_count class in
      let bodies_count = length (b.class_bodies [] class) in
      let here = class_declared (in_file places) number next class in
      let behind = units_declared (number + count) (next + bodies_count) units marks in
      let bodies_here = class_bodies (in_file places) number next class in
      let bodies_behind = units_bodies (number + count) (next + bodies_count) units marks in
      let listed = class_listed class (in_file places) number next in
      all_both Is number count here behind listed
      (class_walked class (in_file places) number next tt each.0 (sits_left meant.classes number here behind classes)
      (sits_left meant.bodies next bodies_here bodies_behind bodies))
      (units_walked units marks (number + count) (next + bodies_count) each.1
      (sits_right meant.classes number count here behind listed classes)
      (sits_right meant.bodies next bodies_count bodies_here bodies_behind (class_counted class (in_file places) number next tt) bodies))

pub classes_are : (files : List (List ℕ)) (units : List p.SourceUnit) (marks : List (List Place)) (Has : List ClassScope → p.Class → Type 0)
    (Is : ℕ → m.Declaration → Type 0) → Gives (meant_of files units marks) Has Is → EachUnit Has units → (number : ℕ) (class : m.Declaration) →
    slice_get (meant_of files units marks).classes number ≡ Some class → Is number class
classes_are files units marks Has Is one each number class here =
    let meant = meant_of files units marks in
    let z : number + 0 ≡ number = omega arith in
    subst (λ n. Is n class) z
    (all_at Is 0 number meant.classes class
    (units_walked meant Has Is one units marks 0 0 each (sits_itself meant.classes) (sits_itself meant.bodies)) here)
