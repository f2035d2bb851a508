-- The methods of a class, and the blocks in them, use what is there.
use Rattle.std.proofs.Common.{◌≡◌, ◌≤◌, ℕ, ◌+◌, [], ◌∷◌, ◌++◌, length, refl, arith}
use Rattle.std.specs.Prelude.{map, Option, Some, None}
use Rattle.ns_tree.specs.declared.token.Kind.TheVariants as k
use Rattle.ns_tree.specs.Flat as t
use Rattle.ns_tree.specs.Plain as p
use Rattle.ns_scope.specs.declared.scope.CodeSide.{CodeSide}
use Rattle.ns_scope.specs.declared.scope.CodeSide.TheVariants as side
use Rattle.ns_scope.specs.Names.{locals_of}
use Rattle.ns_scope.specs.Bodies as b
use Rattle.ns_static_rules.specs.Rules.{params_found, locals_found}
use Rattle.ns_static_rules.specs.Faults as f
use Rattle.ns_resolved.specs.Program as m
use Rattle.ns_resolved.specs.Statements.{routine, routine_bodies}
use Rattle.ns_resolved.specs.Classes.{Around, in_method}
use Rattle.ns_resolved.specs.Classes.{method_bodies, what_methods, members_methods, side_methods, class_side_methods}
use Rattle.ns_resolved.specs.laws.Numbering.{bars_counted}
use Rattle.ns_resolved.specs.laws.Counting.{what_methods_counted}
use Rattle.ns_link.proofs.Around.{ClassesTell, Stands}
use Rattle.ns_link.proofs.Balance as balance
use Rattle.ns_link.proofs.ClassBalance as class_balance
use Rattle.ns_link.proofs.Faults.{empty_left, empty_right}
use Rattle.ns_link.proofs.FewLocals.{few_locals}
use Rattle.ns_link.proofs.Inside.{AllUse, Part, two, left_tokens, bars_use, statements_use}
use Rattle.ns_link.proofs.Routines.{Uses, method_uses}
use Rattle.ns_resolved.specs.laws.Sits.{Sits, sits_left, sits_right, sits_first, sits_behind}
use Rattle.ns_link.proofs.Sits.{all_both}
use Rattle.ns_link.proofs.Tables.{has_locals}
use Rattle.ns_link.proofs.Tokens.{Lawful, lawful_left, lawful_right, lawful_texts, few_open}

-- The declarations around, which the scopes tell of, from this one outwards.
pub record Surrounds (meant : m.Meant) (depth : ℕ) (around : Around) (from : Option ℕ) : Type 0 where
  pub tell : ClassesTell meant around.classes from
  pub few : length around.classes ≤ depth
  pub shallow : depth ≤ 100

module _ (meant : m.Meant) where
  -- ---- methods

  pub method_use : (method : p.Method) (around : Around) (side : CodeSide) (class number depth : ℕ) → Surrounds meant depth around (Some class) →
      f.method_faults around.classes side method ≡ [] → Lawful depth (t.flat_method method) → Sits meant.bodies number (method_bodies around side class number method) →
      AllUse meant number (method_bodies around side class number method)
  method_use (p.method_with (p.pattern_with parts params) bars body) around side class number depth s e lawful sits =
      let here = in_method around side class number params bars in
      let first = routine here None m.as_method params bars body in
      let there = sits_first meant.bodies number first (routine_bodies here bars body) sits in
      let inner = f.bars_faults here.scope bars ++ f.statements_faults here.scope body in
      let locals = locals_found (locals_of params bars) in
      let further = empty_right (params_found params) (locals ++ inner) e in
      let none = empty_right locals inner further in
      let few = few_locals params bars (empty_left locals inner further) in
      let block = t.flat_bars bars ++ (t.flat_statements body ++ k.Close ∷ []) in
      let named = lawful_right (t.flat_pattern (p.pattern_with parts params)) (t.equals ∷ k.Open ∷ block) depth (class_balance.pattern_balanced (p.pattern_with parts params)) lawful in
      let open_few = few_open depth named.2.1 in
      let classes = s.few in
      let count = length (b.bars_blocks here.scope bars) in
      let stands : Stands meant (depth + 1) here first =
      record {
        there = there;
        class = refl;
        side = refl;
        bodies = (first, there, has_locals params bars first refl few, tt);
        classes = s.tell;
        home = λ h. (0, number, first, _, _, refl, there, refl);
        few_bodies = omega arith;
        few_classes = omega (classes, arith);
        shallow = omega (open_few, arith);
      } in
      let whole : Part meant (depth + 1) here (number + 1) inner block (routine_bodies here bars body) =
      record { holder = first; stands = stands; none = none; lawful = named.2.2; sits = sits_behind meant.bodies number first (routine_bodies here bars body) sits } in (
        method_uses meant (depth + 1) here first stands params bars body (k.Close ∷ []) refl few none (lawful_texts block (depth + 1) named.2.2),
        two meant (depth + 1) here (number + 1) count _ _ _ _ _ _ (bars_counted bars here (number + 1)) (balance.bars_balanced bars) whole
            (bars_use meant bars (depth + 1) here (number + 1))
            (λ behind. statements_use meant body (depth + 1) here (number + 1 + count) (left_tokens meant (t.flat_statements body) (k.Close ∷ []) behind)),
      )

  what_use : (what : p.What) (around : Around) (side : CodeSide) (class next depth : ℕ) → Surrounds meant depth around (Some class) →
      f.what_faults around.classes side what ≡ [] → Lawful depth (t.flat_what what) → Sits meant.bodies next (what_methods around side class next what) →
      AllUse meant next (what_methods around side class next what)
  what_use (p.class_member inner) around side class next depth s e lawful sits = tt
  what_use (p.method_member method) around side class next depth s e lawful sits = method_use method around side class next depth s e lawful sits

  pub members_use : (members : p.Members) (around : Around) (side : CodeSide) (class next depth : ℕ) → Surrounds meant depth around (Some class) →
      f.members_faults around.classes side members ≡ [] → Lawful depth (t.flat_members members) →
      Sits meant.bodies next (members_methods around side class next members) → AllUse meant next (members_methods around side class next members)
  members_use p.no_members around side class next depth s e lawful sits = tt
  members_use (p.more_members (p.member_with categories access what) rest) around side class next depth s e lawful sits =
      let member = p.member_with categories access what in
      let count = length (b.member_methods around.classes side what) in
      let here = what_methods around side class next what in
      let behind = members_methods around side class (next + count) rest in
      let counted = what_methods_counted what around side class next in
      let first = lawful_left (t.flat_member member) (t.flat_members rest) depth lawful in
      let worded = lawful_right (map k.Str categories) (t.flat_access access ++ t.flat_what what) depth (class_balance.categories_balanced categories) first in
      all_both (Uses meant) next count here behind counted
      (what_use what around side class next depth s (empty_left (f.what_faults around.classes side what) (f.members_faults around.classes side rest) e)
      (lawful_right (t.flat_access access) (t.flat_what what) depth (balance.access_balanced access) worded) (sits_left meant.bodies next here behind sits))
      (members_use rest around side class (next + count) depth s (empty_right (f.what_faults around.classes side what) (f.members_faults around.classes side rest) e)
      (lawful_right (t.flat_member member) (t.flat_members rest) depth (class_balance.member_balanced member) lawful)
      (sits_right meant.bodies next count here behind counted sits))

  pub side_use : (members : p.Side) (around : Around) (side : CodeSide) (class next depth : ℕ) → Surrounds meant (depth + 1) around (Some class) →
      f.side_faults around.classes side members ≡ [] → Lawful depth (t.flat_side members) →
      Sits meant.bodies next (side_methods around side class next members) → AllUse meant next (side_methods around side class next members)
  side_use (p.side_with members tail) around side class next depth s e lawful sits =
      members_use members around side class next (depth + 1) s e (lawful_left (t.flat_members members) (map k.Str tail ++ k.Close ∷ []) (depth + 1) lawful.2) sits

  pub class_side_use : (others : p.ClassSide) (around : Around) (class next depth : ℕ) → Surrounds meant (depth + 1) around (Some class) →
      f.class_side_faults around.classes others ≡ [] → Lawful depth (t.flat_class_side others) →
      Sits meant.bodies next (class_side_methods around class next others) → AllUse meant next (class_side_methods around class next others)
  class_side_use p.no_class_side around class next depth s e lawful sits = tt
  class_side_use (p.class_side_with others) around class next depth s e lawful sits = side_use others around side.Class class next depth s e lawful.2 sits
