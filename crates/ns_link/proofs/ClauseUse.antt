-- The clause of a class and its superclass message use what is there.
use Rattle.std.proofs.Common.{◌≡◌, ◌≤◌, ◌<◌, ℕ, List, [], ◌∷◌, ◌++◌, length, ◌^◌, refl, ap, ◌∙◌, arith}
use Rattle.std.specs.Prelude.{true, false, Option, Some, None, codes}
use Rattle.std.specs.Option.{option_map_or}
use Rattle.ns_tree.specs.declared.tree.Named.{Named}
use Rattle.ns_tree.specs.declared.tree.Base.{Base}
use Rattle.ns_tree.specs.declared.tree.Origin.{Origin}
use Rattle.ns_tree.specs.declared.tree.Origin.TheVariants as o
use Rattle.ns_tree.specs.Flat as t
use Rattle.ns_tree.specs.Plain as p
use Rattle.ns_tree.specs.Tree.{AllHaveText}
use Rattle.ns_scope.specs.Scopes.{clause_scope}
use Rattle.ns_static_rules.specs.Rules.{top_found}
use Rattle.ns_static_rules.specs.Faults as f
use Rattle.ns_code.specs.Selector.{text_arity}
use Rattle.ns_resolved.specs.Program as m
use Rattle.ns_resolved.specs.Uses.{Use, a_message, how_many, NodeHas, NodesHave}
use Rattle.ns_resolved.specs.Expressions.{Standing, message_said, to_super, to_outer, name_sent}
use Rattle.ns_resolved.specs.Classes.{Around, standing, base_by, head_node, clause_body, clause_bodies, super_bodies, super_arguments}
use Rattle.ns_resolved.specs.Classes.{super_selector, message_selector}
use Rattle.ns_link.specs.Reached.{IsThereButBlocks}
use Rattle.ns_link.specs.Reaching.{NamesHave}
use Rattle.ns_link.proofs.Around.{ClassesTell, Stands}
use Rattle.ns_link.proofs.ClassBalance as class_balance
use Rattle.ns_link.proofs.Expressions.{message_has}
use Rattle.ns_link.proofs.Faults.{empty_left, empty_right}
use Rattle.ns_link.proofs.Inside.{AllUse, Part, right_tokens, message_use}
use Rattle.ns_link.proofs.Patterns.{texts_left, texts_right}
use Rattle.ns_link.proofs.Reach.{reaches}
use Rattle.ns_link.proofs.Sending.{send_has, named_has, name_good}
use Rattle.ns_resolved.specs.laws.Sits.{Sits, sits_first}
use Rattle.ns_link.proofs.Tables.{has_locals}
use Rattle.ns_link.proofs.Tokens.{Lawful, lawful_texts}
use Rattle.ns_link.proofs.OwnUse.{Surrounds}

module _ (meant : m.Meant) where
  -- ---- the superclass part

  pub super_use : (clause : Option p.SuperClause) (depth : ℕ) (here : Standing) (next : ℕ) →
      Part meant depth here next (f.super_faults here.scope clause) (t.flat_super clause) (super_bodies here next clause) → AllUse meant next (super_bodies here next clause)
  super_use (Some (p.clause_with head over (Some message))) depth here next part =
      message_use meant message depth here next
      (right_tokens meant (t.flat_over over) (t.flat_message message) (class_balance.over_balanced over)
      (right_tokens meant (t.flat_base head) (t.flat_over over ++ t.flat_message message) (class_balance.base_balanced head) part))
  super_use (Some (p.clause_with head over None)) depth here next part = tt
  super_use None depth here next part = tt

  said_selector : (message : p.Message) (here : Standing) (next : ℕ) → (message_said here next message).sent.selector ≡ message_selector message
  said_selector (p.unary name) here next = refl
  said_selector (p.binary name argument) here next = refl
  said_selector (p.keywords keys) here next = refl

  module _ (Has : Use → Type 0) (here : Standing) (reached : NamesHave Has here.scope)
      (good : (selector : List ℕ) (count : ℕ) → Has (a_message selector count) → (count ≡ text_arity selector) × (count < 2 ^ 8)) where
    -- the superclass message has as many arguments as its selector takes, and they are few
    pub super_arguments_have : (clause : Option p.SuperClause) (next : ℕ) → f.super_faults here.scope clause ≡ [] → AllHaveText (t.flat_super clause) →
        NodesHave Has (super_arguments here next clause)
        × (how_many (super_arguments here next clause) ≡ text_arity (super_selector clause)) × (how_many (super_arguments here next clause) < 2 ^ 8)
    super_arguments_have (Some (p.clause_with head over (Some message))) next e texts =
        let told = texts_right (t.flat_over over) (t.flat_message message) (texts_right (t.flat_base head) (t.flat_over over ++ t.flat_message message) texts) in
        let has = message_has Has here reached message next e told in
        let fits = good (message_said here next message).sent.selector (how_many (message_said here next message).arguments) has.1 in
        (has.0, fits.0 ∙ ap text_arity (said_selector message here next), fits.1)
    super_arguments_have (Some (p.clause_with head over None)) next e texts = (tt, refl, omega arith)
    super_arguments_have None next e texts = (tt, refl, omega arith)

    base_has : (origin : Origin) (name : Named) → f.origin_faults here.scope.classes origin ≡ [] → AllHaveText (t.flat_origin origin ++ t.ident name ∷ []) →
        NodeHas Has (base_by here origin name)
    base_has o.Here name e texts = named_has Has here reached (name_sent here name) texts.0.0
    base_has o.Super name e texts = send_has Has here reached to_super (name_sent here name) m.no_nodes tt (tt, name_good Has here reached name.text texts.1.0.0)
    base_has (o.Outer class) name e texts =
        send_has Has here reached (to_outer class.text) (name_sent here name) m.no_nodes (reached.outer class e)
        (tt, name_good Has here reached name.text texts.1.1.0.0)

    head_has : (head : Base) (over : Option Base) → f.base_faults here.scope.classes head ++ f.over_faults here.scope.classes over ≡ [] →
        AllHaveText (t.flat_base head) → AllHaveText (t.flat_over over) → NodeHas Has (head_node here head over)
    head_has head None e head_texts over_texts =
        base_has head.origin head.name (empty_left (f.base_faults here.scope.classes head) [] e) head_texts
    head_has head (Some over) e head_texts over_texts = (
      base_has head.origin head.name (empty_left (f.base_faults here.scope.classes head) (f.base_faults here.scope.classes over) e) head_texts,
      (base_has over.origin over.name (empty_right (f.base_faults here.scope.classes head) (f.base_faults here.scope.classes over) e) over_texts.1, tt),
      reached.message (codes "<:") 1 refl (omega arith),
    )

  -- ---- the clause

  pub clause_use : (clause : Option p.SuperClause) (around : Around) (next depth : ℕ) → Surrounds meant depth around around.outer →
      f.head_faults around.classes clause ≡ [] → Lawful depth (t.flat_super clause) → Sits meant.bodies next (clause_bodies around next clause) →
      AllUse meant next (clause_bodies around next clause)
  clause_use None around next depth s e lawful sits = tt
  clause_use (Some clause) around next depth s e lawful sits = by_outer around.outer clause s.tell e lawful sits where
    by_outer : (outer : Option ℕ) (clause : p.SuperClause) → ClassesTell meant around.classes outer → f.clause_faults around.classes clause ≡ [] →
        Lawful depth (t.flat_clause clause) →
        Sits meant.bodies next (option_map_or (λ outer. clause_body (standing around (clause_scope around.classes) outer next) clause ∷ []) outer []) →
        AllUse meant next (option_map_or (λ outer. clause_body (standing around (clause_scope around.classes) outer next) clause ∷ []) outer [])
    by_outer None clause tell e lawful sits = tt
    by_outer (Some outer) (p.clause_with head over message) tell e lawful sits =
        let clause = p.clause_with head over message in
        let here = standing around (clause_scope around.classes) outer next in
        let first = clause_body here clause in
        let there = sits_first meant.bodies next first [] sits in
        let few : length around.classes ≤ depth = s.few in
        let texts = lawful_texts (t.flat_clause clause) depth lawful in
        let behind = t.flat_over over ++ t.flat_super_message message in
        let stands : Stands meant depth here first =
        record {
          there = there;
          class = refl;
          side = refl;
          bodies = (first, there, has_locals [] p.no_bars first refl (omega arith), tt);
          classes = tell;
          home = λ h. absurd (let g : false ≡ true = h in cc);
          few_bodies = omega arith;
          few_classes = omega (few, arith);
          shallow = s.shallow;
        } in (
          head_has (IsThereButBlocks meant next first) here (reaches meant depth here first stands) (λ selector count h. h) head over
              (empty_right (top_found around.classes clause) (f.base_faults around.classes head ++ f.over_faults around.classes over) e)
              (texts_left (t.flat_base head) behind texts) (texts_left (t.flat_over over) (t.flat_super_message message) (texts_right (t.flat_base head) behind texts)),
          tt,
        )
