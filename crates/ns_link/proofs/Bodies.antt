-- The bodies that a class's record names are there: its clause, its initialiser and its methods.
use Rattle.std.proofs.Common.{◌≡◌, ℕ, ◌+◌, List, [], ◌∷◌, ◌++◌, length, refl}
use Rattle.std.specs.Prelude.{Option, Some, None}
use Rattle.std.specs.Option.{option_map_or}
use Rattle.ns_tree.specs.declared.tree.Access.{Access}
use Rattle.ns_tree.specs.declared.tree.Access.TheVariants as a
use Rattle.ns_tree.specs.Plain as p
use Rattle.ns_scope.specs.declared.scope.CodeSide.{CodeSide}
use Rattle.ns_scope.specs.declared.scope.CodeSide.TheVariants as side
use Rattle.ns_scope.specs.Names.{access_or}
use Rattle.ns_scope.specs.Scopes.{clause_scope, initialiser_scope}
use Rattle.ns_scope.specs.Bodies as b
use Rattle.ns_resolved.specs.Program as m
use Rattle.ns_resolved.specs.Statements.{bars_values, statements_steps, routine, routine_bodies}
use Rattle.ns_resolved.specs.Classes.{Around, within, standing, in_method, head_node, clause_body, clause_bodies, clause_number, initialiser_of, initialiser_body}
use Rattle.ns_resolved.specs.Classes.{method_bodies, what_methods, members_methods, side_methods, class_side_methods, what_listed}
use Rattle.ns_resolved.specs.Classes.{methods_listed, side_listed, class_side_listed, class_bodies, declaration_of}
use Rattle.ns_resolved.specs.Right.{HasInitialiser, HasClause, HaveMethods}
use Rattle.ns_resolved.specs.laws.Counting.{HasNumber, clause_counted, what_methods_counted}
use Rattle.ns_link.specs.Spelled.{WhatTakes, MembersTake, SideTakes, ClassSideTakes}
use Rattle.ns_resolved.specs.laws.Sits.{Sits, sits_left, sits_right, sits_first}

module _ (meant : m.Meant) where
  pub clause_there : (class : m.Declaration) (clause : Option p.SuperClause) (around : Around) (next : ℕ) → class.outer ≡ around.outer →
      Sits meant.bodies next (clause_bodies around next clause) → HasClause meant class (clause_number around next clause)
  clause_there class None around next e sits = tt
  clause_there class (Some clause) around next e sits = by_outer around.outer clause e sits where
    by_outer : (outer : Option ℕ) (clause : p.SuperClause) → class.outer ≡ outer →
        Sits meant.bodies next (option_map_or (λ outer. clause_body (standing around (clause_scope around.classes) outer next) clause ∷ []) outer []) →
        HasClause meant class (option_map_or (λ outer. Some next) outer None)
    by_outer None clause e sits = tt
    by_outer (Some outer) (p.clause_with head over message) e sits =
        let here = standing around (clause_scope around.classes) outer next in
        (clause_body here (p.clause_with head over message), head_node here head over, sits_first meant.bodies next _ [] sits, refl, refl, e, refl)

  pub initialiser_there : (class : p.Class) (around : Around) (number next : ℕ) → HasNumber around.outer around.classes →
      Sits meant.bodies next (class_bodies around number next class) → HasInitialiser meant number (declaration_of around number next class)
  initialiser_there (p.class_with name factory clause bars body members others) around number next h sits =
      let class = p.class_with name factory clause bars body members others in
      let inner = within around number class in
      let own_next = next + length (b.clause_bodies around.classes clause) in
      let here = standing inner (initialiser_scope inner.classes factory) number own_next in
      let behind = sits_right meant.bodies next (length (b.clause_bodies around.classes clause)) (clause_bodies around next clause) _ (clause_counted clause around next h) sits in
      (initialiser_body here class, initialiser_of here name clause bars body, sits_first meant.bodies own_next (initialiser_body here class) _ behind, refl, refl, refl, refl)

  -- ---- methods

  method_there : (method : p.Method) (around : Around) (side : CodeSide) (class next : ℕ) (access : Access) → WhatTakes (p.method_member method) →
      Sits meant.bodies next (method_bodies around side class next method) → HaveMethods meant side class (what_listed next access (p.method_member method))
  method_there (p.method_with (p.pattern_with parts params) bars body) around side class next access takes sits =
      let here = in_method around side class next params bars in
      let values = bars_values here (here.body + 1) (length params) bars in
      let steps = statements_steps here (here.body + 1 + length (b.bars_blocks here.scope bars)) body in
      let first = routine here None m.as_method params bars body in
      ((first, values, steps, sits_first meant.bodies next first (routine_bodies here bars body) sits, refl, refl, refl, takes), tt)

  what_there : (what : p.What) (around : Around) (side : CodeSide) (class next : ℕ) (access : Access) → WhatTakes what →
      Sits meant.bodies next (what_methods around side class next what) → HaveMethods meant side class (what_listed next access what)
  what_there (p.class_member inner) around side class next access takes sits = tt
  what_there (p.method_member method) around side class next access takes sits = method_there method around side class next access takes sits

  have_both : (side : CodeSide) (class : ℕ) (a b : List m.Method) → HaveMethods meant side class a → HaveMethods meant side class b →
      HaveMethods meant side class (a ++ b)
  have_both side class [] b left right = right
  have_both side class (method ∷ a) b left right = (left.0, have_both side class a b left.1 right)

  members_there : (members : p.Members) (around : Around) (side : CodeSide) (class next : ℕ) (other : Access) → MembersTake members →
      Sits meant.bodies next (members_methods around side class next members) → HaveMethods meant side class (methods_listed around side next other members)
  members_there p.no_members around side class next other takes sits = tt
  members_there (p.more_members (p.member_with categories access what) rest) around side class next other takes sits =
      let count = length (b.member_methods around.classes side what) in
      let here = what_methods around side class next what in
      let behind = members_methods around side class (next + count) rest in
      have_both side class _ _ (what_there what around side class next (access_or other access) takes.0 (sits_left meant.bodies next here behind sits))
      (members_there rest around side class (next + count) other takes.1
      (sits_right meant.bodies next count here behind (what_methods_counted what around side class next) sits))

  pub side_there : (members : p.Side) (around : Around) (side : CodeSide) (class next : ℕ) (other : Access) → SideTakes members →
      Sits meant.bodies next (side_methods around side class next members) → HaveMethods meant side class (side_listed around side next other members)
  side_there (p.side_with members tail) around side class next other takes sits = members_there members around side class next other takes sits

  pub class_side_there : (others : p.ClassSide) (around : Around) (class next : ℕ) → ClassSideTakes others →
      Sits meant.bodies next (class_side_methods around class next others) → HaveMethods meant side.Class class (class_side_listed around next others)
  class_side_there p.no_class_side around class next takes sits = tt
  class_side_there (p.class_side_with others) around class next takes sits = side_there others around side.Class class next a.Public takes sits
