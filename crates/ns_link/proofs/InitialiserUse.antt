-- The initialiser of a class and its methods use what is there, and so do the blocks in them.
use Rattle.std.proofs.Common.{◌≡◌, ◌≤◌, ℕ, suc, ◌+◌, [], ◌∷◌, ◌++◌, length, refl, sym, ap, ◌∙◌, arith}
use Rattle.std.specs.Prelude.{true, false, Option, Some, slice_get}
use Rattle.ns_tree.specs.declared.token.Kind.TheVariants as k
use Rattle.ns_tree.specs.declared.tree.Named.{Named}
use Rattle.ns_tree.specs.Flat as t
use Rattle.ns_tree.specs.Plain as p
use Rattle.ns_scope.specs.declared.scope.CodeSide.TheVariants as side
use Rattle.ns_scope.specs.Names.{locals_of, instance_members, class_members}
use Rattle.ns_scope.specs.Scopes.{initialiser_scope, factory_params}
use Rattle.ns_scope.specs.Bodies as b
use Rattle.ns_static_rules.specs.Rules.{params_found, locals_found, members_found}
use Rattle.ns_static_rules.specs.Faults as f
use Rattle.ns_code.specs.Selector.{text_arity}
use Rattle.ns_resolved.specs.Program as m
use Rattle.ns_resolved.specs.Classes.{Around, standing, super_selector, side_methods, class_side_methods, initialiser_body, initialiser_inside, own_bodies}
use Rattle.ns_resolved.specs.Classes.{bars_slots}
use Rattle.ns_resolved.specs.laws.Numbering.{bars_counted}
use Rattle.ns_resolved.specs.laws.Counting.{super_counted, side_counted}
use Rattle.ns_link.specs.Reached.{IsThereButBlocks}
use Rattle.ns_link.proofs.Around.{Stands}
use Rattle.ns_link.proofs.Balance as balance
use Rattle.ns_link.proofs.ClassBalance as class_balance
use Rattle.ns_link.proofs.ClauseUse.{super_use, super_arguments_have}
use Rattle.ns_link.proofs.Faults.{empty_left, empty_right}
use Rattle.ns_link.proofs.FewLocals.{few_locals}
use Rattle.ns_link.proofs.FewMembers.{as_many_slots, few_slots}
use Rattle.ns_link.proofs.Inside.{AllUse, Part, two, enter, left_tokens, bars_use, statements_use}
use Rattle.ns_link.proofs.Named.{initialiser_counted}
use Rattle.ns_link.proofs.OwnUse.{Surrounds, side_use, class_side_use}
use Rattle.ns_link.proofs.Patterns.{texts_left, texts_right}
use Rattle.ns_link.proofs.Reach.{reaches}
use Rattle.ns_link.proofs.Routines.{Uses}
use Rattle.ns_resolved.specs.laws.Sits.{Sits, sits_left, sits_right, sits_first, sits_behind}
use Rattle.ns_link.proofs.Sits.{all_both}
use Rattle.ns_link.proofs.Statements.{bars_count, statements_expressions}
use Rattle.ns_link.proofs.Statements as statements
use Rattle.ns_link.proofs.Tables.{has_locals}
use Rattle.ns_link.proofs.Tokens.{Lawful, lawful_left, lawful_right, lawful_texts}

-- The record is one of the class: its slots, and the selector of its superclass message.
abbrev pub IsOf : p.Class → m.Declaration → Type 0
IsOf (p.class_with name factory clause bars body members others) declared =
    (declared.super_selector ≡ super_selector clause) × (declared.slots ≡ bars_slots bars)

module _ (meant : m.Meant) where
  -- ---- an initialiser and the blocks in it

  initialiser_use : (factory : Option p.Pattern) (clause : Option p.SuperClause) (bars : p.Bars) (body : p.Statements) (name : Named) (members : p.Side)
      (others : p.ClassSide) (around : Around) (number next depth : ℕ) (declared : m.Declaration) →
      let class = p.class_with name factory clause bars body members others in
      let here = standing around (initialiser_scope around.classes factory) number next in
      Surrounds meant (depth + 1) around (Some number) → depth ≤ 100 →
      slice_get meant.classes number ≡ Some declared → declared.super_selector ≡ super_selector clause → declared.slots ≡ bars_slots bars → bars_count bars ≤ 1023 →
      f.initialiser_faults around.classes factory clause bars body ≡ [] →
      Lawful depth (t.flat_super clause ++ k.Open ∷ (t.flat_bars bars ++ (t.flat_statements body ++ k.Close ∷ []))) →
      Sits meant.bodies next (initialiser_body here class ∷ initialiser_inside here class) → AllUse meant next (initialiser_body here class ∷ initialiser_inside here class)
  initialiser_use factory clause bars body name members others around number next depth declared s shallow known selector slots few_slots e lawful sits =
      let class = p.class_with name factory clause bars body members others in
      let here = standing around (initialiser_scope around.classes factory) number next in
      let first = initialiser_body here class in
      let inner = initialiser_inside here class in
      let there = sits_first meant.bodies next first inner sits in
      let params = factory_params factory in
      let supers = length (b.super_blocks here.scope clause) in
      let count = length (b.bars_blocks here.scope bars) in
      let steps = f.bars_faults here.scope bars ++ f.statements_faults here.scope body in
      let faults = f.super_faults here.scope clause ++ steps in
      let locals = locals_found (locals_of params p.no_bars) in
      let further = empty_right (params_found params) (locals ++ faults) e in
      let few = few_locals params p.no_bars (empty_left locals faults further) in
      let none = empty_right locals faults further in
      let none_steps = empty_right (f.super_faults here.scope clause) steps none in
      let classes = s.few in
      let closing = t.flat_statements body ++ k.Close ∷ [] in
      let block = t.flat_bars bars ++ closing in
      let all_tokens = t.flat_super clause ++ k.Open ∷ block in
      let opened = lawful_right (t.flat_super clause) (k.Open ∷ block) depth (class_balance.super_balanced clause) lawful in
      let texts = lawful_texts block (depth + 1) opened.2 in
      let stands : Stands meant depth here first =
      record {
        there = there;
        class = refl;
        side = refl;
        bodies = (first, there, has_locals params p.no_bars first refl few, tt);
        classes = s.tell;
        home = λ h. absurd (let g : false ≡ true = h in cc);
        few_bodies = omega arith;
        few_classes = classes;
        shallow = shallow;
      } in
      let Has = IsThereButBlocks meant next first in
      let reached = reaches meant depth here first stands in
      let start = super_arguments_have meant Has here reached (λ selector count h. h) clause (next + 1) (empty_left (f.super_faults here.scope clause) steps none)
      (lawful_texts (t.flat_super clause) depth (lawful_left (t.flat_super clause) (k.Open ∷ block) depth lawful)) in
      let slots_length = ap length slots in
      let same = as_many_slots bars in
      let whole : Part meant depth here (next + 1) faults all_tokens inner =
      record { holder = first; stands = stands; none = none; lawful = lawful; sits = sits_behind meant.bodies next first inner sits } in (
        (
          start.0,
          ((declared, known, start.1 ∙ sym (ap text_arity selector)), start.2),
          statements.bars_slots Has here reached bars (next + 1 + supers) (bars_count bars) (omega arith)
              (λ i below. ((declared, known, omega (below, slots_length, same, arith)), omega (below, few_slots, arith)))
              (empty_left (f.bars_faults here.scope bars) (f.statements_faults here.scope body) none_steps) (texts_left (t.flat_bars bars) closing texts),
          statements_expressions Has here reached body (next + 1 + supers + count)
              (empty_right (f.bars_faults here.scope bars) (f.statements_faults here.scope body) none_steps)
              (texts_left (t.flat_statements body) (k.Close ∷ []) (texts_right (t.flat_bars bars) closing texts)),
        ),
        two meant depth here (next + 1) supers _ _ _ _ _ _ (super_counted clause here (next + 1)) (class_balance.super_balanced clause) whole
            (super_use meant clause depth here (next + 1))
            (λ behind. two meant (depth + 1) here (next + 1 + supers) count _ _ _ _ _ _ (bars_counted bars here (next + 1 + supers)) (balance.bars_balanced bars)
            (enter meant block behind behind.lawful.1 behind.lawful.2)
            (bars_use meant bars (depth + 1) here (next + 1 + supers))
            (λ last. statements_use meant body (depth + 1) here (next + 1 + supers + count) (left_tokens meant (t.flat_statements body) (k.Close ∷ []) last))),
      )

  -- ---- the bodies of a declaration

  pub own_use : (class : p.Class) (around : Around) (number next depth : ℕ) (declared : m.Declaration) → Surrounds meant (depth + 1) around (Some number) →
      depth ≤ 100 → slice_get meant.classes number ≡ Some declared → IsOf class declared → f.class_members_found class ≡ [] →
      f.class_inside_faults around.classes class ≡ [] → Lawful depth (t.flat_class class) →
      Sits meant.bodies next (own_bodies around number next class) → AllUse meant next (own_bodies around number next class)
  own_use (p.class_with name factory clause bars body members others) around number next depth declared s shallow known of_class few none lawful sits =
      let class = p.class_with name factory clause bars body members others in
      let here = standing around (initialiser_scope around.classes factory) number next in
      let first = initialiser_body here class in
      let inner = initialiser_inside here class in
      let starts = length (b.initialiser_bodies around.classes class) in
      let methods_next = next + starts in
      let sides_count = length (b.side_bodies around.classes side.Instance members) in
      let methods = side_methods around side.Instance number methods_next members in
      let others_methods = class_side_methods around number (methods_next + sides_count) others in
      let start = f.initialiser_faults around.classes factory clause bars body in
      let instances = f.side_faults around.classes side.Instance members in
      let sides = instances ++ f.class_side_faults around.classes others in
      let block = t.flat_bars bars ++ (t.flat_statements body ++ k.Close ∷ []) in
      let sides_tokens = t.flat_side members ++ t.flat_class_side others in
      let heads = lawful_left (t.head class) sides_tokens depth lawful in
      let named = lawful_right (t.flat_factory factory) (t.equals ∷ (t.flat_super clause ++ k.Open ∷ block)) depth (class_balance.factory_balanced factory) heads.2.2 in
      let behind = lawful_right (t.head class) sides_tokens depth (class_balance.head_balanced class) lawful in
      let started : length (first ∷ inner) ≡ starts = ap suc (initialiser_counted clause bars body here) in
      let all_methods = sits_right meant.bodies next starts (first ∷ inner) (methods ++ others_methods) started sits in
      let counted = side_counted members around side.Instance number methods_next in
      all_both (Uses meant) next starts (first ∷ inner) (methods ++ others_methods) started
      (initialiser_use factory clause bars body name members others around number next depth declared s shallow known of_class.0 of_class.1
      (few_slots bars members (empty_left (members_found (instance_members bars members)) (members_found (class_members others)) few))
      (empty_left start sides none) named.2 (sits_left meant.bodies next (first ∷ inner) (methods ++ others_methods) sits))
      (all_both (Uses meant) methods_next sides_count methods others_methods counted
      (side_use meant members around side.Instance number methods_next depth s (empty_left instances (f.class_side_faults around.classes others) (empty_right start sides none))
      (lawful_left (t.flat_side members) (t.flat_class_side others) depth behind) (sits_left meant.bodies methods_next methods others_methods all_methods))
      (class_side_use meant others around number (methods_next + sides_count) depth s
      (empty_right instances (f.class_side_faults around.classes others) (empty_right start sides none))
      (lawful_right (t.flat_side members) (t.flat_class_side others) depth (class_balance.side_balanced members) behind)
      (sits_right meant.bodies methods_next sides_count methods others_methods counted all_methods)))
