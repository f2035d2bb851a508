-- Each body of a program is placed: its declaration is there, and it stands in another body where it is a block.
use Rattle.std.proofs.Common.{◌≡◌, ◌≤◌, ◌<◌, ℕ, ◌+◌, List, [], ◌∷◌, ◌++◌, length, refl, subst, arith}
use Rattle.std.specs.Prelude.{Option, Some, None, slice_get}
use Rattle.std.specs.Option.{option_map_or}
use Rattle.ns_base.specs.declared.place.Place.{Place}
use Rattle.ns_tree.specs.Plain as p
use Rattle.ns_scope.specs.declared.scope.CodeSide.{CodeSide}
use Rattle.ns_scope.specs.declared.scope.CodeSide.TheVariants as side
use Rattle.ns_scope.specs.Scopes.{clause_scope, initialiser_scope, factory_params}
use Rattle.ns_scope.specs.Bodies as b
use Rattle.ns_resolved.specs.Program as m
use Rattle.ns_resolved.specs.Expressions.{Standing}
use Rattle.ns_resolved.specs.Statements.{bars_bodies, statements_bodies, routine, routine_bodies}
use Rattle.ns_resolved.specs.Classes.{Around, in_file, within, standing, in_method, clause_body, clause_bodies, super_bodies, method_bodies}
use Rattle.ns_resolved.specs.Classes.{what_methods, members_methods, side_methods, class_side_methods, own_bodies, class_bodies, nested_bodies}
use Rattle.ns_resolved.specs.Classes.{initialiser_body, initialiser_inside, meant_of}
use Rattle.ns_resolved.specs.Classes.{members_bodies, member_bodies, what_bodies, class_count, side_count, members_count, member_count, what_count}
use Rattle.ns_resolved.specs.Classes.{units_bodies, units_count}
use Rattle.ns_resolved.specs.There.{IsPlaced}
use Rattle.ns_resolved.specs.laws.Sits.{Sits, sits_left, sits_right, sits_behind}
use Rattle.ns_resolved.proofs.Placing.{ArePlaced, placed_both, placed_at, Part, two, inner_part, params_among}
use Rattle.ns_resolved.specs.laws.Numbering.{both, bars_counted, statements_counted}
use Rattle.ns_resolved.specs.laws.Counting.{HasNumber, super_counted, what_methods_counted, side_counted, clause_counted, own_counted, class_counted, member_counted}
use Rattle.ns_resolved.specs.laws.Counting.{units_listed}
use Rattle.ns_resolved.proofs.BlockNodes.{method_has, initialiser_has, head_has}
use Rattle.ns_resolved.proofs.Blocks.{message_placed, bars_placed, statements_placed}

module _ (meant : m.Meant) where
  -- two lists that sit one behind the other
  apart : (n count : ℕ) (left right : List m.Body) → length left ≡ count → Sits meant.bodies n (left ++ right) →
      (Sits meant.bodies n left → ArePlaced meant n left) → (Sits meant.bodies (n + count) right → ArePlaced meant (n + count) right) →
      ArePlaced meant n (left ++ right)
  apart n count left right h sits f g =
      placed_both meant n count left right h (f (sits_left meant.bodies n left right sits)) (g (sits_right meant.bodies n count left right h sits))

  -- ---- the bodies of a declaration

  super_placed : (clause : Option p.SuperClause) (here : Standing) (next : ℕ) →
      Part meant here next (b.super_blocks here.scope clause) (super_bodies here next clause) → ArePlaced meant next (super_bodies here next clause)
  super_placed (Some (p.clause_with head over (Some message))) here next part = message_placed meant message here next part
  super_placed (Some (p.clause_with head over None)) here next part = tt
  super_placed None here next part = tt

  method_placed : (method : p.Method) (around : Around) (side : CodeSide) (class number : ℕ) → class < length meant.classes →
      Sits meant.bodies number (method_bodies around side class number method) → ArePlaced meant number (method_bodies around side class number method)
  method_placed (p.method_with (p.pattern_with parts params) bars body) around side class number known sits =
      let here = in_method around side class number params bars in (
        record {
          class = known;
          params = params_among params bars;
          stands = refl;
          blocks = method_has meant here (length params) bars body
              (sits_behind meant.bodies number (routine here None m.as_method params bars body) (routine_bodies here bars body) sits);
        },
        two meant here (number + 1) _ _ _ _ (bars_counted bars here (number + 1))
            (inner_part meant here (routine here None m.as_method params bars body) (b.bars_blocks here.scope bars ++ b.statements_blocks here.scope body)
            (routine_bodies here bars body) refl refl refl known sits)
            (bars_placed meant bars here (number + 1)) (statements_placed meant body here (number + 1 + length (b.bars_blocks here.scope bars))),
      )

  what_methods_placed : (what : p.What) (around : Around) (side : CodeSide) (class next : ℕ) → class < length meant.classes →
      Sits meant.bodies next (what_methods around side class next what) → ArePlaced meant next (what_methods around side class next what)
  what_methods_placed (p.class_member inner) around side class next known sits = tt
  what_methods_placed (p.method_member method) around side class next known sits = method_placed method around side class next known sits

  members_methods_placed : (members : p.Members) (around : Around) (side : CodeSide) (class next : ℕ) → class < length meant.classes →
      Sits meant.bodies next (members_methods around side class next members) → ArePlaced meant next (members_methods around side class next members)
  members_methods_placed p.no_members around side class next known sits = tt
  members_methods_placed (p.more_members (p.member_with categories access what) rest) around side class next known sits =
      apart next (length (b.member_methods around.classes side what)) _ _ (what_methods_counted what around side class next) sits
      (what_methods_placed what around side class next known)
      (members_methods_placed rest around side class (next + length (b.member_methods around.classes side what)) known)

  side_placed : (members : p.Side) (around : Around) (side : CodeSide) (class next : ℕ) → class < length meant.classes →
      Sits meant.bodies next (side_methods around side class next members) → ArePlaced meant next (side_methods around side class next members)
  side_placed (p.side_with members tail) around side class next known sits = members_methods_placed members around side class next known sits

  class_side_placed : (others : p.ClassSide) (around : Around) (class next : ℕ) → class < length meant.classes →
      Sits meant.bodies next (class_side_methods around class next others) → ArePlaced meant next (class_side_methods around class next others)
  class_side_placed p.no_class_side around class next known sits = tt
  class_side_placed (p.class_side_with others) around class next known sits = side_placed others around side.Class class next known sits

  inside_counted : (clause : Option p.SuperClause) (bars : p.Bars) (body : p.Statements) (here : Standing) (next : ℕ) →
      length (super_bodies here next clause ++ (bars_bodies here (next + length (b.super_blocks here.scope clause)) bars
      ++ statements_bodies here (next + length (b.super_blocks here.scope clause) + length (b.bars_blocks here.scope bars)) body))
      ≡ length (b.super_blocks here.scope clause ++ (b.bars_blocks here.scope bars ++ b.statements_blocks here.scope body))
  inside_counted clause bars body here next =
      both _ _ _ _ (super_counted clause here next)
      (both _ _ _ _ (bars_counted bars here (next + length (b.super_blocks here.scope clause)))
      (statements_counted body here (next + length (b.super_blocks here.scope clause) + length (b.bars_blocks here.scope bars))))

  own_placed : (class : p.Class) (around : Around) (number next : ℕ) → number < length meant.classes →
      Sits meant.bodies next (own_bodies around number next class) → ArePlaced meant next (own_bodies around number next class)
  own_placed (p.class_with name factory clause bars body members others) around number next known sits =
      let class = p.class_with name factory clause bars body members others in
      let here = standing around (initialiser_scope around.classes factory) number next in
      let supers = b.super_blocks here.scope clause in
      let slots = b.bars_blocks here.scope bars in
      let blocks = supers ++ (slots ++ b.statements_blocks here.scope body) in
      let first = initialiser_body here class in
      let inner = initialiser_inside here class in
      let methods_next = next + length (b.initialiser_bodies around.classes class) in
      let side_next = methods_next + length (b.side_bodies around.classes side.Instance members) in
      let methods = side_methods around side.Instance number methods_next members in
      let side_methods = class_side_methods around number side_next others in
      let z : methods_next ≡ next + 1 + length blocks = omega arith in (
        record {
          class = known;
          params = params_among (factory_params factory) p.no_bars;
          stands = refl;
          blocks = initialiser_has meant here name clause bars body
              (sits_behind meant.bodies next first inner (sits_left meant.bodies next (first ∷ inner) (methods ++ side_methods) sits));
        },
        apart (next + 1) (length blocks) inner (methods ++ side_methods) (inside_counted clause bars body here (next + 1))
            (sits_behind meant.bodies next first (inner ++ (methods ++ side_methods)) sits)
            (λ within. two meant here (next + 1) supers (slots ++ b.statements_blocks here.scope body) _ _ (super_counted clause here (next + 1))
            (inner_part meant here first blocks inner refl refl refl known (sits_left meant.bodies next (first ∷ inner) (methods ++ side_methods) sits))
            (super_placed clause here (next + 1))
            (λ part. two meant here (next + 1 + length supers) slots (b.statements_blocks here.scope body) _ _ (bars_counted bars here (next + 1 + length supers)) part
            (bars_placed meant bars here (next + 1 + length supers)) (statements_placed meant body here (next + 1 + length supers + length slots))))
            (subst (λ n. Sits meant.bodies n (methods ++ side_methods) → ArePlaced meant n (methods ++ side_methods)) z
            (λ further. apart methods_next (length (b.side_bodies around.classes side.Instance members)) methods side_methods
            (side_counted members around side.Instance number methods_next) further
            (side_placed members around side.Instance number methods_next known) (class_side_placed others around number side_next known))),
      )

  -- ---- clauses

  -- the declaration around is there
  abbrev pub OuterIsThere : Option ℕ → Type 0
  OuterIsThere None = Unit {0}
  OuterIsThere (Some outer) = outer < length meant.classes

  clause_placed : (clause : Option p.SuperClause) (around : Around) (next : ℕ) → OuterIsThere around.outer →
      ArePlaced meant next (clause_bodies around next clause)
  clause_placed None around next known = tt
  clause_placed (Some clause) around next known = by_outer around.outer clause known where
    by_outer : (outer : Option ℕ) (clause : p.SuperClause) → OuterIsThere outer →
        ArePlaced meant next (option_map_or (λ outer. clause_body (standing around (clause_scope around.classes) outer next) clause ∷ []) outer [])
    by_outer None clause known = tt
    by_outer (Some outer) (p.clause_with head over message) known = (
      record {
        class = known;
        params = omega arith;
        stands = refl;
        blocks = head_has meant (standing around (clause_scope around.classes) outer next) head over;
      },
      tt,
    )

  -- ---- classes

  mutual
    class_placed : (class : p.Class) (around : Around) (number next : ℕ) → HasNumber around.outer around.classes → OuterIsThere around.outer →
        number + class_count class ≤ length meant.classes → Sits meant.bodies next (class_bodies around number next class) →
        ArePlaced meant next (class_bodies around number next class)
    class_placed (p.class_with name factory clause bars body members others) around number next h outer few sits =
        let class = p.class_with name factory clause bars body members others in
        let own_next = next + length (b.clause_bodies around.classes clause) in
        let inner = within around number class in
        let inner_next = own_next + length (b.own_bodies inner.classes class) in
        let known : number < length meant.classes = omega (few, arith) in
        apart next (length (b.clause_bodies around.classes clause)) (clause_bodies around next clause)
        (own_bodies inner number own_next class ++ nested_bodies inner (number + 1) inner_next members) (clause_counted clause around next h) sits
        (λ within_clause. clause_placed clause around next outer)
        (λ further. apart own_next (length (b.own_bodies inner.classes class)) (own_bodies inner number own_next class)
        (nested_bodies inner (number + 1) inner_next members) (own_counted class inner number own_next) further
        (own_placed class inner number own_next known)
        (nested_placed members inner (number + 1) inner_next tt known (omega (few, arith))))

    nested_placed : (members : p.Side) (around : Around) (number next : ℕ) → HasNumber around.outer around.classes → OuterIsThere around.outer →
        number + side_count members ≤ length meant.classes → Sits meant.bodies next (nested_bodies around number next members) →
        ArePlaced meant next (nested_bodies around number next members)
    nested_placed (p.side_with members tail) around number next h outer few sits = members_placed members around number next h outer few sits

    members_placed : (members : p.Members) (around : Around) (number next : ℕ) → HasNumber around.outer around.classes → OuterIsThere around.outer →
        number + members_count members ≤ length meant.classes → Sits meant.bodies next (members_bodies around number next members) →
        ArePlaced meant next (members_bodies around number next members)
    members_placed p.no_members around number next h outer few sits = tt
    members_placed (p.more_members member rest) around number next h outer few sits =
        let rest_next = next + length (b.member_nested around.classes member) in
        apart next (length (b.member_nested around.classes member)) (member_bodies around number next member)
        (members_bodies around (number + member_count member) rest_next rest) (member_counted member around number next h) sits
        (member_placed member around number next h outer (omega (few, arith)))
        (members_placed rest around (number + member_count member) rest_next h outer (omega (few, arith)))

    member_placed : (member : p.Member) (around : Around) (number next : ℕ) → HasNumber around.outer around.classes → OuterIsThere around.outer →
        number + member_count member ≤ length meant.classes → Sits meant.bodies next (member_bodies around number next member) →
        ArePlaced meant next (member_bodies around number next member)
    member_placed (p.member_with categories access what) around number next h outer few sits = what_placed what around number next h outer few sits

    what_placed : (what : p.What) (around : Around) (number next : ℕ) → HasNumber around.outer around.classes → OuterIsThere around.outer →
        number + what_count what ≤ length meant.classes → Sits meant.bodies next (what_bodies around number next what) →
        ArePlaced meant next (what_bodies around number next what)
    what_placed (p.class_member class) around number next h outer few sits = class_placed class around number next h outer few sits
    what_placed (p.method_member method) around number next h outer few sits = tt

  -- ---- programs

  units_placed : (units : List p.SourceUnit) (marks : List (List Place)) (number next : ℕ) →
      number + units_count units ≤ length meant.classes → Sits meant.bodies next (units_bodies number next units marks) →
      ArePlaced meant next (units_bodies number next units marks)
  units_placed [] marks number next few sits = tt
  units_placed (unit ∷ units) [] number next few sits = tt
  units_placed (p.unit_with marker category class ∷ units) (places ∷ marks) number next few sits =
      let rest_next = next + length (b.class_bodies [] class) in
      apart next (length (b.class_bodies [] class)) (class_bodies (in_file places) number next class)
      (units_bodies (number + class_count class) rest_next units marks) (class_counted class (in_file places) number next tt) sits
      (class_placed class (in_file places) number next tt tt (omega (few, arith)))
      (units_placed units marks (number + class_count class) rest_next (omega (few, arith)))

pub bodies_placed : (files : List (List ℕ)) (units : List p.SourceUnit) (marks : List (List Place)) → length units ≡ length marks →
    (number : ℕ) (body : m.Body) →
    slice_get (meant_of files units marks).bodies number ≡ Some body → IsPlaced (meant_of files units marks) number body
bodies_placed files units marks e number body here =
    let meant = meant_of files units marks in
    let counted = units_listed units marks 0 0 e in
    let z : number + 0 ≡ number = omega arith in
    subst (λ n. IsPlaced meant n body) z
    (placed_at meant 0 number meant.bodies body
    (units_placed meant units marks 0 0 (omega (counted, arith))
    (λ k other f. let y : k ≡ k + 0 = omega arith in subst (λ n. slice_get meant.bodies n ≡ Some other) y f))
    here)
