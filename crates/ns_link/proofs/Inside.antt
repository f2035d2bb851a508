-- The bodies of the blocks in an expression use what is there.
use Rattle.std.proofs.Common.{◌≡◌, ℕ, suc, ◌+◌, List, [], ◌∷◌, ◌++◌, length, refl, ap, ◌∙◌, arith}
use Rattle.std.specs.Prelude.{false, nat_le, map, flat_map, Some, slice_get}
use Rattle.std.specs.Option.{option_and_then}
use Rattle.ns_tree.specs.declared.token.Kind.{Kind}
use Rattle.ns_tree.specs.declared.token.Kind.TheVariants as k
use Rattle.ns_tree.specs.declared.tree.Named.{Named}
use Rattle.ns_tree.specs.Deep.{most_brackets}
use Rattle.ns_tree.specs.Flat as t
use Rattle.ns_tree.specs.Plain as p
use Rattle.ns_scope.specs.Names.{locals_of}
use Rattle.ns_scope.specs.Bodies as b
use Rattle.ns_static_rules.specs.declared.fault.Role.{Role}
use Rattle.ns_static_rules.specs.Rules.{Found, locals_found, return_found, set_found, cascade_found}
use Rattle.ns_static_rules.specs.Faults as f
use Rattle.ns_resolved.specs.Program as m
use Rattle.ns_resolved.specs.Expressions.{Standing}
use Rattle.ns_resolved.specs.There.{StandsInMethod, parent_of}
use Rattle.ns_resolved.specs.Statements.{inside, block_body, routine_bodies, expr_bodies, cascade_bodies, message_bodies, key_expr_bodies, keys_bodies, bin_bodies}
use Rattle.ns_resolved.specs.Statements.{opers_bodies, un_bodies, primary_bodies, items_bodies, block_bodies, bars_bodies, slots_bodies, slot_bodies}
use Rattle.ns_resolved.specs.Statements.{init_bodies, statements_bodies, list_bodies, statement_bodies}
use Rattle.ns_resolved.specs.laws.Numbering.{expr_counted, message_counted, key_expr_counted, bin_counted, un_counted, slot_counted, bars_counted, statement_counted}
use Rattle.ns_link.proofs.Around.{Stands, out_of_parent}
use Rattle.ns_link.proofs.Balance as balance
use Rattle.ns_link.proofs.Faults.{empty_left, empty_right}
use Rattle.ns_link.proofs.FewLocals.{few_locals}
use Rattle.ns_link.proofs.Routines.{Uses, block_uses}
use Rattle.ns_resolved.specs.laws.Sits.{Sits, sits_left, sits_right, sits_first, sits_behind}
use Rattle.ns_link.proofs.Sits.{AreAll, all_both}
use Rattle.ns_link.proofs.Tables.{has_locals}
use Rattle.ns_link.proofs.Tokens.{Lawful, Balanced, lawful_left, lawful_right, lawful_texts, few_open}

more_items : (items : p.Exprs) (depth : ℕ) → Lawful depth (t.flat_more_items items) → Lawful depth (t.flat_items items)
more_items p.no_exprs depth lawful = tt
more_items (p.more_exprs expr rest) depth lawful = lawful.2

more_list : (list : p.StatementList) (depth : ℕ) → Lawful depth (t.flat_more_list list) → Lawful depth (t.flat_list list)
more_list p.no_statements depth lawful = tt
more_list (p.more_statements statement rest) depth lawful = lawful.2

-- A part of a body without faults, with the bodies of the blocks in it.
pub record Part (meant : m.Meant) (depth : ℕ) (here : Standing) (next : ℕ) (found : List Found) (tokens : List Kind) (bodies : List m.Body) : Type 0 where
  pub holder : m.Body
  pub stands : Stands meant depth here holder
  pub none : found ≡ []
  pub lawful : Lawful depth tokens
  pub sits : Sits meant.bodies next bodies

module _ (meant : m.Meant) where
  -- each of these bodies uses what is there
  abbrev pub AllUse : ℕ → List m.Body → Type 0
  AllUse next bodies = AreAll (Uses meant) next bodies

  pub fewer : {depth next : ℕ} {here : Standing} {tokens : List Kind} {bodies : List m.Body} (a b : List Found) → Part meant depth here next (a ++ b) tokens bodies →
      Part meant depth here next b tokens bodies
  fewer a b part = record { holder = part.holder; stands = part.stands; none = empty_right a b part.none; lawful = part.lawful; sits = part.sits }

  pub left_tokens : {depth next : ℕ} {here : Standing} {found : List Found} {bodies : List m.Body} (a b : List Kind) → Part meant depth here next found (a ++ b) bodies →
      Part meant depth here next found a bodies
  left_tokens {depth} a b part = record { holder = part.holder; stands = part.stands; none = part.none; lawful = lawful_left a b depth part.lawful; sits = part.sits }

  pub right_tokens : {depth next : ℕ} {here : Standing} {found : List Found} {bodies : List m.Body} (a b : List Kind) → Balanced a →
      Part meant depth here next found (a ++ b) bodies → Part meant depth here next found b bodies
  right_tokens {depth} a b balanced part = record { holder = part.holder; stands = part.stands; none = part.none; lawful = lawful_right a b depth balanced part.lawful; sits = part.sits }

  pub with_tokens : {depth next : ℕ} {here : Standing} {found : List Found} {tokens : List Kind} {bodies : List m.Body} (others : List Kind) →
      Part meant depth here next found tokens bodies → Lawful depth others → Part meant depth here next found others bodies
  with_tokens others part lawful = record { holder = part.holder; stands = part.stands; none = part.none; lawful = lawful; sits = part.sits }

  -- one bracket further in
  pub deeper : {depth : ℕ} {here : Standing} {body : m.Body} → Stands meant depth here body → nat_le most_brackets depth ≡ false →
      Stands meant (depth + 1) here body
  deeper {depth} s e =
      let few = few_open depth e in
      let bodies = s.few_bodies in
      let classes = s.few_classes in
      record {
        there = s.there;
        class = s.class;
        side = s.side;
        bodies = s.bodies;
        classes = s.classes;
        home = s.home;
        few_bodies = omega (bodies, arith);
        few_classes = omega (classes, arith);
        shallow = omega (few, arith);
      }

  pub enter : {depth next : ℕ} {here : Standing} {found : List Found} {tokens : List Kind} {bodies : List m.Body} (others : List Kind) →
      Part meant depth here next found tokens bodies → nat_le most_brackets depth ≡ false → Lawful (depth + 1) others →
      Part meant (depth + 1) here next found others bodies
  enter others part e lawful = record { holder = part.holder; stands = deeper part.stands e; none = part.none; lawful = lawful; sits = part.sits }

  pub two : (depth : ℕ) (here : Standing) (next count : ℕ) (a b : List Found) (s u : List Kind) (left right : List m.Body) → length left ≡ count → Balanced s →
      Part meant depth here next (a ++ b) (s ++ u) (left ++ right) → (Part meant depth here next a s left → AllUse next left) →
      (Part meant depth here (next + count) b u right → AllUse (next + count) right) → AllUse next (left ++ right)
  two depth here next count a b s u left right counted balanced part f g =
      all_both (Uses meant) next count left right counted
      (f (record { holder = part.holder; stands = part.stands; none = empty_left a b part.none; lawful = lawful_left s u depth part.lawful; sits = sits_left meant.bodies next left right part.sits }))
      (g (record {
        holder = part.holder;
        stands = part.stands;
        none = empty_right a b part.none;
        lawful = lawful_right s u depth balanced part.lawful;
        sits = sits_right meant.bodies next count left right counted part.sits;
      }))

  -- ---- blocks

  -- the home of a block is that of the body around
  home_further : (number parent : ℕ) → parent_of meant number ≡ Some parent → StandsInMethod meant parent → StandsInMethod meant number
  home_further number parent e home =
      (suc home.0, home.1, home.2, home.3, home.4, out_of_parent meant home.0 number parent e ∙ home.5, home.6, home.7)

  block_stands : (depth : ℕ) (here : Standing) (number : ℕ) (params : List Named) (bars : p.Bars) (body : p.Statements) (holder : m.Body) →
      Stands meant depth here holder →
      nat_le most_brackets depth ≡ false → locals_found (locals_of params bars) ≡ [] →
      slice_get meant.bodies number ≡ Some (block_body here number (p.block_with params bars body)) →
      Stands meant (depth + 1) (inside here number params bars) (block_body here number (p.block_with params bars body))
  block_stands depth here number params bars body holder s e none there =
      let first = block_body here number (p.block_with params bars body) in
      let few = few_open depth e in
      let bodies = s.few_bodies in
      let classes = s.few_classes in
      record {
        there = there;
        class = refl;
        side = refl;
        bodies = (first, there, has_locals params bars first refl (few_locals params bars none), s.bodies);
        classes = s.classes;
        home = λ h. home_further number here.body (ap (option_and_then (λ (body : m.Body). body.parent)) there) (s.home h);
        few_bodies = omega (bodies, arith);
        few_classes = omega (classes, arith);
        shallow = omega (few, arith);
      }

  -- ---- expressions

  mutual
    pub expr_use : (part : p.Expr) (depth : ℕ) (here : Standing) (next : ℕ) →
        Part meant depth here next (f.expr_faults here.scope part) (t.flat_expr part) (expr_bodies here next part) → AllUse next (expr_bodies here next part)
    expr_use (p.expr_with sets first more) depth here next part =
        let found = f.key_expr_faults here.scope first ++ f.cascade_faults here.scope more in
        two depth here next (length (b.key_expr_blocks here.scope first)) _ _ _ _ _ _ (key_expr_counted first here next) (balance.key_expr_balanced first)
        (right_tokens (map t.set_key sets) (t.flat_key_expr first ++ t.flat_cascade more) (balance.set_keys sets)
        (fewer (cascade_found first more) found (fewer (flat_map (set_found here.scope) sets) (cascade_found first more ++ found) part)))
        (key_expr_use first depth here next) (cascade_use more depth here (next + length (b.key_expr_blocks here.scope first)))

    pub cascade_use : (part : p.Cascade) (depth : ℕ) (here : Standing) (next : ℕ) →
        Part meant depth here next (f.cascade_faults here.scope part) (t.flat_cascade part) (cascade_bodies here next part) → AllUse next (cascade_bodies here next part)
    cascade_use p.no_messages depth here next part = tt
    cascade_use (p.more_messages at message rest) depth here next part =
        two depth here next (length (b.message_blocks here.scope message)) _ _ _ _ _ _ (message_counted message here next) (balance.message_balanced message)
        (with_tokens (t.flat_message message ++ t.flat_cascade rest) part part.lawful.2)
        (message_use message depth here next) (cascade_use rest depth here (next + length (b.message_blocks here.scope message)))

    pub message_use : (part : p.Message) (depth : ℕ) (here : Standing) (next : ℕ) →
        Part meant depth here next (f.message_faults here.scope part) (t.flat_message part) (message_bodies here next part) → AllUse next (message_bodies here next part)
    message_use (p.unary name) depth here next part = tt
    message_use (p.binary name argument) depth here next part = un_use argument _ depth here next (with_tokens (t.flat_un argument) part part.lawful.2)
    message_use (p.keywords keys) depth here next part = keys_use keys depth here next (fewer (f.keywords_found keys) (f.keys_faults here.scope keys) part)

    pub key_expr_use : (part : p.KeyExpr) (depth : ℕ) (here : Standing) (next : ℕ) →
        Part meant depth here next (f.key_expr_faults here.scope part) (t.flat_key_expr part) (key_expr_bodies here next part) →
        AllUse next (key_expr_bodies here next part)
    key_expr_use (p.sent receiver keys) depth here next part =
        let further = next + length (b.bin_blocks here.scope receiver) in
        two depth here next (length (b.bin_blocks here.scope receiver)) _ _ _ _ _ _ (bin_counted receiver here next) (balance.bin_balanced receiver) part
        (bin_use receiver _ depth here next)
        (λ behind. keys_use keys depth here further (fewer (f.keywords_found keys) (f.keys_faults here.scope keys) behind))
    key_expr_use (p.implicit keys) depth here next part = keys_use keys depth here next (fewer (f.keywords_found keys) (f.keys_faults here.scope keys) part)

    pub keys_use : (part : p.Keys) (depth : ℕ) (here : Standing) (next : ℕ) →
        Part meant depth here next (f.keys_faults here.scope part) (t.flat_keys part) (keys_bodies here next part) → AllUse next (keys_bodies here next part)
    keys_use p.no_keys depth here next part = tt
    keys_use (p.more_keys name argument rest) depth here next part =
        two depth here next (length (b.bin_blocks here.scope argument)) _ _ _ _ _ _ (bin_counted argument here next) (balance.bin_balanced argument)
        (with_tokens (t.flat_bin argument ++ t.flat_keys rest) part part.lawful.2)
        (bin_use argument _ depth here next) (keys_use rest depth here (next + length (b.bin_blocks here.scope argument)))

    pub bin_use : (part : p.BinExpr) (role : Role) (depth : ℕ) (here : Standing) (next : ℕ) →
        Part meant depth here next (f.bin_faults here.scope role part) (t.flat_bin part) (bin_bodies here next part) → AllUse next (bin_bodies here next part)
    bin_use (p.bin_with first more) role depth here next part =
        two depth here next (length (b.un_blocks here.scope first)) _ _ _ _ _ _ (un_counted first here next) (balance.un_balanced first) part
        (un_use first _ depth here next) (opers_use more depth here (next + length (b.un_blocks here.scope first)))

    pub opers_use : (part : p.Opers) (depth : ℕ) (here : Standing) (next : ℕ) →
        Part meant depth here next (f.opers_faults here.scope part) (t.flat_opers part) (opers_bodies here next part) → AllUse next (opers_bodies here next part)
    opers_use p.no_opers depth here next part = tt
    opers_use (p.more_opers name argument rest) depth here next part =
        two depth here next (length (b.un_blocks here.scope argument)) _ _ _ _ _ _ (un_counted argument here next) (balance.un_balanced argument)
        (with_tokens (t.flat_un argument ++ t.flat_opers rest) part part.lawful.2)
        (un_use argument _ depth here next) (opers_use rest depth here (next + length (b.un_blocks here.scope argument)))

    pub un_use : (part : p.UnExpr) (role : Role) (depth : ℕ) (here : Standing) (next : ℕ) →
        Part meant depth here next (f.un_faults here.scope role part) (t.flat_un part) (un_bodies here next part) → AllUse next (un_bodies here next part)
    un_use (p.un_with at primary names) role depth here next part =
        primary_use primary _ at depth here next (left_tokens (t.flat_primary primary) (map t.ident names) part)

    pub primary_use : (part : p.Primary) (role : Role) (at depth : ℕ) (here : Standing) (next : ℕ) →
        Part meant depth here next (f.primary_faults here.scope role at part) (t.flat_primary part) (primary_bodies here next part) →
        AllUse next (primary_bodies here next part)
    primary_use (p.paren inner) role at depth here next part =
        expr_use inner (depth + 1) here next (left_tokens (t.flat_expr inner) (k.Close ∷ []) (enter (t.flat_expr inner ++ k.Close ∷ []) part part.lawful.1 part.lawful.2))
    primary_use (p.block_literal block) role at depth here next part = block_use block depth here next part
    primary_use (p.tuple items stop) role at depth here next part =
        let closing = t.stop_if stop ++ k.CloseTuple ∷ [] in
        items_use items (depth + 1) here next
        (left_tokens (t.flat_items items) closing
        (enter (t.flat_items items ++ closing) (fewer (f.elements_found items) (f.items_faults here.scope items) part) part.lawful.1 part.lawful.2))
    primary_use (p.name text) role at depth here next part = tt
    primary_use (p.number minus size) role at depth here next part = tt
    primary_use (p.string text) role at depth here next part = tt
    primary_use (p.symbol text) role at depth here next part = tt
    primary_use p.nil_word role at depth here next part = tt
    primary_use p.true_word role at depth here next part = tt
    primary_use p.false_word role at depth here next part = tt
    primary_use p.self_word role at depth here next part = tt
    primary_use p.super_word role at depth here next part = tt
    primary_use (p.outer_name name) role at depth here next part = tt

    pub items_use : (part : p.Exprs) (depth : ℕ) (here : Standing) (next : ℕ) →
        Part meant depth here next (f.items_faults here.scope part) (t.flat_items part) (items_bodies here next part) → AllUse next (items_bodies here next part)
    items_use p.no_exprs depth here next part = tt
    items_use (p.more_exprs expr rest) depth here next part =
        two depth here next (length (b.expr_blocks here.scope expr)) _ _ _ _ _ _ (expr_counted expr here next) (balance.expr_balanced expr) part
        (expr_use expr depth here next)
        (λ behind. items_use rest depth here (next + length (b.expr_blocks here.scope expr))
        (with_tokens (t.flat_items rest) behind (more_items rest depth behind.lawful)))

    pub block_use : (part : p.Block) (depth : ℕ) (here : Standing) (next : ℕ) →
        Part meant depth here next (f.block_faults here.scope part) (t.flat_block part) (block_bodies here next part) → AllUse next (block_bodies here next part)
    block_use (p.block_with params bars body) depth here next part =
        let at = inside here next params bars in
        let block = p.block_with params bars body in
        let first = block_body here next block in
        let inner = f.bars_faults at.scope bars ++ f.statements_faults at.scope body in
        let few = empty_left (locals_found (locals_of params bars)) inner part.none in
        let none = empty_right (locals_found (locals_of params bars)) inner part.none in
        let closing = t.flat_statements body ++ k.CloseBlock ∷ [] in
        let lawful = lawful_right (t.flat_params params) (t.flat_bars bars ++ closing) (depth + 1) (balance.params_balanced params) part.lawful.2 in
        let stands = block_stands depth here next params bars body part.holder part.stands part.lawful.1 few (sits_first meant.bodies next first (routine_bodies at bars body) part.sits) in
        let count = length (b.bars_blocks at.scope bars) in
        let whole : Part meant (depth + 1) at (next + 1) inner (t.flat_bars bars ++ closing) (routine_bodies at bars body) =
        record { holder = first; stands = stands; none = none; lawful = lawful; sits = sits_behind meant.bodies next first (routine_bodies at bars body) part.sits } in (
          block_uses meant (depth + 1) at first stands params bars body (k.CloseBlock ∷ []) refl (few_locals params bars few) none
              (lawful_texts (t.flat_bars bars ++ closing) (depth + 1) lawful),
          two (depth + 1) at (next + 1) count _ _ _ _ _ _ (bars_counted bars at (next + 1)) (balance.bars_balanced bars) whole
              (bars_use bars (depth + 1) at (next + 1))
              (λ behind. statements_use body (depth + 1) at (next + 1 + count) (left_tokens (t.flat_statements body) (k.CloseBlock ∷ []) behind)),
        )

    pub bars_use : (part : p.Bars) (depth : ℕ) (here : Standing) (next : ℕ) →
        Part meant depth here next (f.bars_faults here.scope part) (t.flat_bars part) (bars_bodies here next part) → AllUse next (bars_bodies here next part)
    bars_use p.no_bars depth here next part = tt
    bars_use (p.bars_around slots) depth here next part =
        slots_use slots depth here next (left_tokens (t.flat_slots slots) (t.bar ∷ []) (with_tokens (t.flat_slots slots ++ t.bar ∷ []) part part.lawful.2))

    pub slots_use : (part : p.Slots) (depth : ℕ) (here : Standing) (next : ℕ) →
        Part meant depth here next (f.slots_faults here.scope part) (t.flat_slots part) (slots_bodies here next part) → AllUse next (slots_bodies here next part)
    slots_use p.no_slots depth here next part = tt
    slots_use (p.more_slots slot rest) depth here next part =
        two depth here next (length (b.slot_blocks here.scope slot)) _ _ _ _ _ _ (slot_counted slot here next) (balance.slot_balanced slot) part
        (slot_use slot depth here next) (slots_use rest depth here (next + length (b.slot_blocks here.scope slot)))

    pub slot_use : (part : p.Slot) (depth : ℕ) (here : Standing) (next : ℕ) →
        Part meant depth here next (f.slot_faults here.scope part) (t.flat_slot part) (slot_bodies here next part) → AllUse next (slot_bodies here next part)
    slot_use (p.slot_with access name init) depth here next part =
        let named = right_tokens (t.flat_access access) (t.ident name ∷ t.flat_init init) (balance.access_balanced access) part in
        init_use init depth here next (with_tokens (t.flat_init init) named named.lawful.2)

    pub init_use : (part : p.SlotInit) (depth : ℕ) (here : Standing) (next : ℕ) →
        Part meant depth here next (f.init_faults here.scope part) (t.flat_init part) (init_bodies here next part) → AllUse next (init_bodies here next part)
    init_use (p.bare stop) depth here next part = tt
    init_use (p.fixed value) depth here next part =
        expr_use value depth here next (left_tokens (t.flat_expr value) (k.Stop ∷ []) (with_tokens (t.flat_expr value ++ k.Stop ∷ []) part part.lawful.2))
    init_use (p.mutable value) depth here next part =
        expr_use value depth here next (left_tokens (t.flat_expr value) (k.Stop ∷ []) (with_tokens (t.flat_expr value ++ k.Stop ∷ []) part part.lawful.2))

    pub statements_use : (part : p.Statements) (depth : ℕ) (here : Standing) (next : ℕ) →
        Part meant depth here next (f.statements_faults here.scope part) (t.flat_statements part) (statements_bodies here next part) →
        AllUse next (statements_bodies here next part)
    statements_use (p.statements_with list stop) depth here next part = list_use list depth here next (left_tokens (t.flat_list list) (t.stop_if stop) part)

    pub list_use : (part : p.StatementList) (depth : ℕ) (here : Standing) (next : ℕ) →
        Part meant depth here next (f.list_faults here.scope part) (t.flat_list part) (list_bodies here next part) → AllUse next (list_bodies here next part)
    list_use p.no_statements depth here next part = tt
    list_use (p.more_statements statement rest) depth here next part =
        two depth here next (length (b.statement_blocks here.scope statement)) _ _ _ _ _ _ (statement_counted statement here next) (balance.statement_balanced statement) part
        (statement_use statement depth here next)
        (λ behind. list_use rest depth here (next + length (b.statement_blocks here.scope statement))
        (with_tokens (t.flat_list rest) behind (more_list rest depth behind.lawful)))

    pub statement_use : (part : p.Statement) (depth : ℕ) (here : Standing) (next : ℕ) →
        Part meant depth here next (f.statement_faults here.scope part) (t.flat_statement part) (statement_bodies here next part) →
        AllUse next (statement_bodies here next part)
    statement_use (p.statement_with caret expr) depth here next part =
        expr_use expr depth here next
        (right_tokens (t.flat_caret caret) (t.flat_expr expr) (balance.caret_balanced caret) (fewer (return_found here.scope caret) (f.expr_faults here.scope expr) part))
