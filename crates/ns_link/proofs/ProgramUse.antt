-- The bodies of a whole program without faults use what is there.
use Rattle.std.proofs.Common.{◌≡◌, ℕ, ◌+◌, List, [], ◌∷◌, ◌++◌, length, refl, subst, arith}
use Rattle.std.specs.Prelude.{Some, None, map}
use Rattle.ns_base.specs.declared.place.Place.{Place}
use Rattle.ns_tree.specs.declared.token.Kind.TheVariants as k
use Rattle.ns_tree.specs.Flat as t
use Rattle.ns_tree.specs.Plain as p
use Rattle.ns_scope.specs.declared.scope.CodeSide.TheVariants as side
use Rattle.ns_scope.specs.Bodies as b
use Rattle.ns_scope.specs.Whole.{AreWholeUnits}
use Rattle.ns_static_rules.specs.Faults as f
use Rattle.ns_static_rules.specs.Least.{least, faults}
use Rattle.ns_resolved.specs.Program as m
use Rattle.ns_resolved.specs.Classes.{Around, in_file, within, clause_bodies, own_bodies, class_bodies, nested_bodies, members_bodies, member_bodies, what_bodies}
use Rattle.ns_resolved.specs.Classes.{units_bodies, declaration_of, class_declared, side_declared, members_declared, member_declared, what_declared, units_declared}
use Rattle.ns_resolved.specs.Classes.{class_count, member_count, meant_of}
use Rattle.ns_resolved.specs.laws.Counting.{HasNumber, clause_counted, own_counted, class_counted, member_counted, class_listed, member_listed}
use Rattle.ns_link.specs.Each.{EachClass, EachSide, EachMember, EachIn, EachWhat, EachUnit}
use Rattle.ns_link.specs.Faultless.{Faultless}
use Rattle.ns_link.specs.Named.{SpelledIn}
use Rattle.ns_link.specs.Using.{UseWhatIsThere}
use Rattle.ns_link.proofs.Balance as balance
use Rattle.ns_link.proofs.ClassBalance as class_balance
use Rattle.ns_link.proofs.Faults.{empty_left, empty_right, program_faultless, class_alone}
use Rattle.ns_link.proofs.InitialiserUse.{own_use}
use Rattle.ns_link.proofs.Inside.{AllUse}
use Rattle.ns_link.proofs.OwnUse.{Surrounds}
use Rattle.ns_link.proofs.ClauseUse.{clause_use}
use Rattle.ns_link.proofs.PrivateNames.{class_tells}
use Rattle.ns_link.proofs.Routines.{Uses}
use Rattle.ns_resolved.specs.laws.Sits.{Sits, sits_left, sits_right, sits_first, sits_behind}
use Rattle.ns_link.proofs.Sits.{sits_itself, all_both, all_at}
use Rattle.ns_link.proofs.Spelling.{units_spelled}
use Rattle.ns_link.proofs.Tokens.{Lawful, lawful_left, lawful_right, lawful_source, few_open}

module _ (meant : m.Meant) where
  -- ---- classes

  mutual
    class_use : (class : p.Class) (around : Around) (number next depth : ℕ) → HasNumber around.outer around.classes → Surrounds meant depth around around.outer →
        f.class_faults around.classes class ≡ [] → EachClass SpelledIn around.classes class → Lawful depth (t.flat_class class) →
        Sits meant.classes number (class_declared around number next class) → Sits meant.bodies next (class_bodies around number next class) →
        AllUse meant next (class_bodies around number next class)
    class_use (p.class_with name factory clause bars body members others) around number next depth h s e spelled lawful classes bodies =
        let class = p.class_with name factory clause bars body members others in
        let inner = within around number class in
        let declared = declaration_of around number next class in
        let clauses = length (b.clause_bodies around.classes clause) in
        let own_next = next + clauses in
        let owns = length (b.own_bodies inner.classes class) in
        let clause_here = clause_bodies around next clause in
        let own = own_bodies inner number own_next class in
        let nested = nested_bodies inner (number + 1) (own_next + owns) members in
        let further = side_declared inner (number + 1) (own_next + owns) members in
        let start = f.initialiser_faults inner.classes factory clause bars body in
        let instances = f.side_faults inner.classes side.Instance members in
        let sides = instances ++ f.class_side_faults inner.classes others in
        let found = f.class_found around.classes class in
        let members_none = empty_left (f.class_members_found class) (f.head_faults around.classes clause) (empty_left found (start ++ sides) e) in
        let head_none = empty_right (f.class_members_found class) (f.head_faults around.classes clause) (empty_left found (start ++ sides) e) in
        let inside_none = empty_right found (start ++ sides) e in
        let sides_tokens = t.flat_side members ++ t.flat_class_side others in
        let block = t.flat_bars bars ++ (t.flat_statements body ++ k.Close ∷ []) in
        let heads = lawful_left (t.head class) sides_tokens depth lawful in
        let named = lawful_right (t.flat_factory factory) (t.equals ∷ (t.flat_super clause ++ k.Open ∷ block)) depth (class_balance.factory_balanced factory) heads.2.2 in
        let behind = lawful_right (t.head class) sides_tokens depth (class_balance.head_balanced class) lawful in
        let opened = lawful_right (t.flat_super clause) (k.Open ∷ block) depth (class_balance.super_balanced clause) named.2 in
        let open_few = few_open depth opened.1 in
        let few = s.few in
        let known = sits_first meant.classes number declared further classes in
        let counted = clause_counted clause around next h in
        let all_own = sits_right meant.bodies next clauses clause_here (own ++ nested) counted bodies in
        let own_count = own_counted class inner number own_next in
        let surrounds : Surrounds meant (depth + 1) inner (Some number) =
        record { tell = (declared, known, class_tells meant class around number next spelled.0 classes, s.tell); few = omega (few, arith); shallow = omega (open_few, arith) } in
        all_both (Uses meant) next clauses clause_here (own ++ nested) counted
        (clause_use meant clause around next depth s head_none (lawful_left (t.flat_super clause) (k.Open ∷ block) depth named.2)
        (sits_left meant.bodies next clause_here (own ++ nested) bodies))
        (all_both (Uses meant) own_next owns own nested own_count
        (own_use meant class inner number own_next depth declared surrounds s.shallow known (refl, refl) members_none inside_none lawful
        (sits_left meant.bodies own_next own nested all_own))
        (nested_use members inner (number + 1) (own_next + owns) depth tt surrounds
        (empty_left instances (f.class_side_faults inner.classes others) (empty_right start sides inside_none)) spelled.1
        (lawful_left (t.flat_side members) (t.flat_class_side others) depth behind)
        (sits_behind meant.classes number declared further classes) (sits_right meant.bodies own_next owns own nested own_count all_own)))

    nested_use : (members : p.Side) (around : Around) (number next depth : ℕ) → HasNumber around.outer around.classes →
        Surrounds meant (depth + 1) around around.outer → f.side_faults around.classes side.Instance members ≡ [] → EachSide SpelledIn around.classes members →
        Lawful depth (t.flat_side members) →
        Sits meant.classes number (side_declared around number next members) → Sits meant.bodies next (nested_bodies around number next members) →
        AllUse meant next (nested_bodies around number next members)
    nested_use (p.side_with members tail) around number next depth h s e spelled lawful classes bodies =
        members_use members around number next (depth + 1) h s e spelled (lawful_left (t.flat_members members) (map k.Str tail ++ k.Close ∷ []) (depth + 1) lawful.2) classes bodies

    members_use : (members : p.Members) (around : Around) (number next depth : ℕ) → HasNumber around.outer around.classes →
        Surrounds meant depth around around.outer → f.members_faults around.classes side.Instance members ≡ [] → EachMember SpelledIn around.classes members →
        Lawful depth (t.flat_members members) →
        Sits meant.classes number (members_declared around number next members) → Sits meant.bodies next (members_bodies around number next members) →
        AllUse meant next (members_bodies around number next members)
    members_use p.no_members around number next depth h s e spelled lawful classes bodies = tt
    members_use (p.more_members member rest) around number next depth h s e spelled lawful classes bodies =
        let count = member_count member in
        let bodies_count = length (b.member_nested around.classes member) in
        let here = member_declared around number next member in
        let behind = members_declared around (number + count) (next + bodies_count) rest in
        let bodies_here = member_bodies around number next member in
        let bodies_behind = members_bodies around (number + count) (next + bodies_count) rest in
        let counted = member_counted member around number next h in
        let found = f.member_faults around.classes side.Instance member in
        let further = f.members_faults around.classes side.Instance rest in
        all_both (Uses meant) next bodies_count bodies_here bodies_behind counted
        (member_use member around number next depth h s (empty_left found further e) spelled.0 (lawful_left (t.flat_member member) (t.flat_members rest) depth lawful)
        (sits_left meant.classes number here behind classes) (sits_left meant.bodies next bodies_here bodies_behind bodies))
        (members_use rest around (number + count) (next + bodies_count) depth h s (empty_right found further e) spelled.1
        (lawful_right (t.flat_member member) (t.flat_members rest) depth (class_balance.member_balanced member) lawful)
        (sits_right meant.classes number count here behind (member_listed member around number next) classes)
        (sits_right meant.bodies next bodies_count bodies_here bodies_behind counted bodies))

    member_use : (member : p.Member) (around : Around) (number next depth : ℕ) → HasNumber around.outer around.classes →
        Surrounds meant depth around around.outer → f.member_faults around.classes side.Instance member ≡ [] → EachIn SpelledIn around.classes member →
        Lawful depth (t.flat_member member) →
        Sits meant.classes number (member_declared around number next member) → Sits meant.bodies next (member_bodies around number next member) →
        AllUse meant next (member_bodies around number next member)
    member_use (p.member_with categories access what) around number next depth h s e spelled lawful classes bodies =
        let worded = lawful_right (map k.Str categories) (t.flat_access access ++ t.flat_what what) depth (class_balance.categories_balanced categories) lawful in
        what_use what around number next depth h s e spelled (lawful_right (t.flat_access access) (t.flat_what what) depth (balance.access_balanced access) worded) classes bodies

    what_use : (what : p.What) (around : Around) (number next depth : ℕ) → HasNumber around.outer around.classes → Surrounds meant depth around around.outer →
        f.what_faults around.classes side.Instance what ≡ [] → EachWhat SpelledIn around.classes what → Lawful depth (t.flat_what what) →
        Sits meant.classes number (what_declared around number next what) → Sits meant.bodies next (what_bodies around number next what) →
        AllUse meant next (what_bodies around number next what)
    what_use (p.class_member class) around number next depth h s e spelled lawful classes bodies = class_use class around number next depth h s e spelled lawful classes bodies
    what_use (p.method_member method) around number next depth h s e spelled lawful classes bodies = tt

  -- ---- units

  units_use : (file : ℕ) (units : List p.SourceUnit) (marks : List (List Place)) (number next : ℕ) → AreWholeUnits file units marks → EachUnit Faultless units →
      EachUnit SpelledIn units → Sits meant.classes number (units_declared number next units marks) → Sits meant.bodies next (units_bodies number next units marks) →
      AllUse meant next (units_bodies number next units marks)
  units_use file [] marks number next whole none spelled classes bodies = tt
  units_use file (unit ∷ units) [] number next whole none spelled classes bodies = tt
  units_use file (p.unit_with marker category class ∷ units) (places ∷ marks) number next whole none spelled classes bodies =
      let unit = p.unit_with marker category class in
      let count = class_count class in
      let bodies_count = length (b.class_bodies [] class) in
      let here = class_declared (in_file places) number next class in
      let behind = units_declared (number + count) (next + bodies_count) units marks in
      let bodies_here = class_bodies (in_file places) number next class in
      let bodies_behind = units_bodies (number + count) (next + bodies_count) units marks in
      let counted = class_counted class (in_file places) number next tt in
      let tokens = lawful_source (t.flat unit) 0 0 whole.0.tree.told whole.0.shallow in
      let marked = lawful_right (t.flat_marker marker) (t.flat_category category ++ t.flat_class class) 0 (class_balance.marker_balanced marker) tokens in
      all_both (Uses meant) next bodies_count bodies_here bodies_behind counted
      (class_use class (in_file places) number next 0 tt (record { tell = tt; few = omega arith; shallow = omega arith }) (class_alone class [] none.0) spelled.0
      (lawful_right (t.flat_category category) (t.flat_class class) 0 (class_balance.category_balanced category) marked)
      (sits_left meant.classes number here behind classes) (sits_left meant.bodies next bodies_here bodies_behind bodies))
      (units_use (file + 1) units marks (number + count) (next + bodies_count) whole.1 none.1 spelled.1
      (sits_right meant.classes number count here behind (class_listed class (in_file places) number next) classes)
      (sits_right meant.bodies next bodies_count bodies_here bodies_behind counted bodies))

pub bodies_use_what_is_there : (files : List (List ℕ)) (units : List p.SourceUnit) (marks : List (List Place)) →
    AreWholeUnits 0 units marks →
    least (faults units marks) ≡ None → UseWhatIsThere (meant_of files units marks)
bodies_use_what_is_there files units marks whole e number body here =
    let meant = meant_of files units marks in
    let z : number + 0 ≡ number = omega arith in
    subst (λ n. Uses meant n body) z
    (all_at (Uses meant) 0 number meant.bodies body
    (units_use meant 0 units marks 0 0 whole (program_faultless units marks whole e) (units_spelled 0 units marks whole) (sits_itself meant.classes) (sits_itself meant.bodies))
    here)
