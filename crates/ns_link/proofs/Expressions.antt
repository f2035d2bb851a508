-- What an expression without faults uses.
use Rattle.std.proofs.Common.{◌≡◌, ◌<◌, ℕ, ◌+◌, [], ◌∷◌, ◌++◌, length, ◌^◌, refl, arith}
use Rattle.std.specs.Prelude.{flat_map, map, if◌then◌else◌, codes}
use Rattle.ns_tree.specs.declared.token.Kind.TheVariants as k
use Rattle.ns_tree.specs.Flat.{ident, set_key, flat_expr, flat_cascade, flat_message, flat_key_expr, flat_keys, flat_bin, flat_opers, flat_un, flat_primary}
use Rattle.ns_tree.specs.Flat.{flat_items, flat_more_items}
use Rattle.ns_tree.specs.Plain as p
use Rattle.ns_tree.specs.Tree.{AllHaveText}
use Rattle.ns_scope.specs.Bodies as b
use Rattle.ns_static_rules.specs.declared.fault.Role.{Role}
use Rattle.ns_static_rules.specs.declared.fault.Many.TheVariants as many
use Rattle.ns_static_rules.specs.Rules.{set_found, cascade_found, bare_found, outer_found}
use Rattle.ns_static_rules.specs.Faults as f
use Rattle.ns_resolved.specs.Uses.{Use, how_many, NodeHas, NodesHave}
use Rattle.ns_resolved.specs.Expressions.{Standing, Said, nothing, said, message_with, as_receiver, names_said, name_sent, keys_sent, sent_at, integer_of}
use Rattle.ns_resolved.specs.Expressions.{expr_node, cascade_messages, message_said, key_expr_said, keys_nodes, bin_said, opers_said, un_node, un_said}
use Rattle.ns_resolved.specs.Expressions.{primary_receiver, items_nodes, one}
use Rattle.ns_link.specs.Reaching.{NamesHave}
use Rattle.ns_link.proofs.Faults.{empty_left, empty_right}
use Rattle.ns_link.proofs.Differ.{not_past}
use Rattle.ns_link.proofs.Patterns.{texts_left, texts_right}
use Rattle.ns_link.proofs.Arities.{oper_arity, keys_arity, keys_few}
use Rattle.ns_link.proofs.Integers.{integer_fits}
use Rattle.ns_link.proofs.Sending.{ReceiverHas, SaidHas, AllHave, IsGood, receiver_has, as_value_has, names_have, keys_have_said, cascade_has, named_has, name_good, sets_have}

-- ---- elements

as_many_starts : (items : p.Exprs) (here : Standing) (next : ℕ) → how_many (items_nodes here next items) ≡ length (f.expr_starts items)
as_many_starts p.no_exprs here next = refl
as_many_starts (p.more_exprs expr rest) here next =
    let further = as_many_starts rest here (next + length (b.expr_blocks here.scope expr)) in omega (further, arith)

few_elements : (items : p.Exprs) (here : Standing) (next : ℕ) → f.elements_found items ≡ [] → how_many (items_nodes here next items) < 2 ^ 8
few_elements items here next e = let few = not_past 255 many.Elements (f.expr_starts items) e in omega (few, as_many_starts items here next, arith)

more_items : (items : p.Exprs) → AllHaveText (flat_more_items items) → AllHaveText (flat_items items)
more_items p.no_exprs texts = tt
more_items (p.more_exprs expr rest) texts = texts.1

-- ---- expressions

module _ (Has : Use → Type 0) (here : Standing) (reaches : NamesHave Has here.scope) where
  keys_good : (keys : p.Keys) (next : ℕ) → f.keywords_found keys ≡ [] → AllHaveText (flat_keys keys) → NodesHave Has (keys_nodes here next keys) →
      IsGood Has here reaches (keys_sent here keys) (keys_nodes here next keys)
  keys_good p.no_keys next few texts have = (tt, reaches.message [] 0 refl (omega arith))
  keys_good (p.more_keys name argument rest) next few texts have =
      let keys = p.more_keys name argument rest in
      (have, reaches.message (keys_sent here keys).selector (how_many (keys_nodes here next keys)) (keys_arity keys here next texts) (keys_few keys here next few))

  mutual
    pub expr_has : (part : p.Expr) (next : ℕ) → f.expr_faults here.scope part ≡ [] → AllHaveText (flat_expr part) → NodeHas Has (expr_node here next part)
    expr_has (p.expr_with sets first more) next e texts =
        let further = next + length (b.key_expr_blocks here.scope first) in
        let both = empty_right (cascade_found first more) (f.key_expr_faults here.scope first ++ f.cascade_faults here.scope more)
        (empty_right (flat_map (set_found here.scope) sets) (cascade_found first more ++ (f.key_expr_faults here.scope first ++ f.cascade_faults here.scope more)) e) in
        let told = texts_right (map set_key sets) (flat_key_expr first ++ flat_cascade more) texts in
        sets_have Has here reaches sets _ (texts_left (map set_key sets) (flat_key_expr first ++ flat_cascade more) texts)
        (cascade_has Has here reaches (key_expr_said here next first) (cascade_messages here further more)
        (key_expr_has first next (empty_left (f.key_expr_faults here.scope first) (f.cascade_faults here.scope more) both) (texts_left (flat_key_expr first) (flat_cascade more) told))
        (cascade_messages_have more further (empty_right (f.key_expr_faults here.scope first) (f.cascade_faults here.scope more) both) (texts_right (flat_key_expr first) (flat_cascade more) told)))

    cascade_messages_have : (part : p.Cascade) (next : ℕ) → f.cascade_faults here.scope part ≡ [] → AllHaveText (flat_cascade part) →
        AllHave Has here reaches (cascade_messages here next part)
    cascade_messages_have p.no_messages next e texts = tt
    cascade_messages_have (p.more_messages at message rest) next e texts = (
      message_has message next (empty_left (f.message_faults here.scope message) (f.cascade_faults here.scope rest) e) (texts_left (flat_message message) (flat_cascade rest) texts.1),
      cascade_messages_have rest (next + length (b.message_blocks here.scope message)) (empty_right (f.message_faults here.scope message) (f.cascade_faults here.scope rest) e)
          (texts_right (flat_message message) (flat_cascade rest) texts.1),
    )

    pub message_has : (part : p.Message) (next : ℕ) → f.message_faults here.scope part ≡ [] → AllHaveText (flat_message part) →
        IsGood Has here reaches (message_said here next part).sent (message_said here next part).arguments
    message_has (p.unary name) next e texts = (tt, name_good Has here reaches name.text texts.0.0)
    message_has (p.binary name argument) next e texts =
        ((un_node_has argument _ next e texts.1, tt), reaches.message name.text 1 (oper_arity name.text texts.0) (omega arith))
    message_has (p.keywords keys) next e texts =
        keys_good keys next (empty_left (f.keywords_found keys) (f.keys_faults here.scope keys) e) texts
        (keys_have keys next (empty_right (f.keywords_found keys) (f.keys_faults here.scope keys) e) texts)

    key_expr_has : (part : p.KeyExpr) (next : ℕ) → f.key_expr_faults here.scope part ≡ [] → AllHaveText (flat_key_expr part) →
        SaidHas Has here reaches (key_expr_said here next part)
    key_expr_has (p.sent receiver keys) next e texts =
        let found = f.keywords_found keys ++ f.keys_faults here.scope keys in
        let further = next + length (b.bin_blocks here.scope receiver) in
        keys_have_said Has here reaches keys (bin_said here next receiver) (keys_nodes here further keys)
        (bin_has receiver _ next (empty_left _ found e) (texts_left (flat_bin receiver) (flat_keys keys) texts))
        (keys_good keys further (empty_left (f.keywords_found keys) (f.keys_faults here.scope keys) (empty_right _ found e))
        (texts_right (flat_bin receiver) (flat_keys keys) texts)
        (keys_have keys further (empty_right (f.keywords_found keys) (f.keys_faults here.scope keys) (empty_right _ found e))
        (texts_right (flat_bin receiver) (flat_keys keys) texts)))
    key_expr_has (p.implicit keys) next e texts =
        let good = keys_good keys next (empty_left (f.keywords_found keys) (f.keys_faults here.scope keys) e) texts
        (keys_have keys next (empty_right (f.keywords_found keys) (f.keys_faults here.scope keys) e) texts) in
        (reaches.send (keys_sent here keys).selector, good.0, good.1)

    keys_have : (part : p.Keys) (next : ℕ) → f.keys_faults here.scope part ≡ [] → AllHaveText (flat_keys part) → NodesHave Has (keys_nodes here next part)
    keys_have p.no_keys next e texts = tt
    keys_have (p.more_keys name argument rest) next e texts = (
      as_value_has Has here reaches (bin_said here next argument)
          (bin_has argument _ next (empty_left _ (f.keys_faults here.scope rest) e) (texts_left (flat_bin argument) (flat_keys rest) texts.1)),
      keys_have rest (next + length (b.bin_blocks here.scope argument)) (empty_right _ (f.keys_faults here.scope rest) e) (texts_right (flat_bin argument) (flat_keys rest) texts.1),
    )

    bin_has : (part : p.BinExpr) (role : Role) (next : ℕ) → f.bin_faults here.scope role part ≡ [] → AllHaveText (flat_bin part) →
        SaidHas Has here reaches (bin_said here next part)
    bin_has (p.bin_with first more) role next e texts =
        opers_have more (next + length (b.un_blocks here.scope first)) (un_said here next first) (empty_right _ (f.opers_faults here.scope more) e)
        (texts_right (flat_un first) (flat_opers more) texts)
        (un_has first _ next (empty_left _ (f.opers_faults here.scope more) e) (texts_left (flat_un first) (flat_opers more) texts))

    opers_have : (part : p.Opers) (next : ℕ) (last : Said) → f.opers_faults here.scope part ≡ [] → AllHaveText (flat_opers part) → SaidHas Has here reaches last →
        SaidHas Has here reaches (opers_said here next last part)
    opers_have p.no_opers next last e texts h = h
    opers_have (p.more_opers name argument rest) next last e texts h =
        opers_have rest (next + length (b.un_blocks here.scope argument))
        (said (as_receiver here last) (message_with (name_sent here name) (one (un_node here next argument))))
        (empty_right _ (f.opers_faults here.scope rest) e) (texts_right (flat_un argument) (flat_opers rest) texts.1) (
          receiver_has Has here reaches last h,
          (
            (un_node_has argument _ next (empty_left _ (f.opers_faults here.scope rest) e) (texts_left (flat_un argument) (flat_opers rest) texts.1), tt),
            reaches.message name.text 1 (oper_arity name.text texts.0) (omega arith),
          ),
        )

    un_node_has : (part : p.UnExpr) (role : Role) (next : ℕ) → f.un_faults here.scope role part ≡ [] → AllHaveText (flat_un part) →
        NodeHas Has (un_node here next part)
    un_node_has (p.un_with at primary names) role next e texts =
        as_value_has Has here reaches (names_said here (nothing (primary_receiver here next at primary)) names)
        (names_have Has here reaches names (nothing (primary_receiver here next at primary)) (texts_right (flat_primary primary) (map ident names) texts)
        (primary_has primary _ next at e (texts_left (flat_primary primary) (map ident names) texts)))

    un_has : (part : p.UnExpr) (role : Role) (next : ℕ) → f.un_faults here.scope role part ≡ [] → AllHaveText (flat_un part) →
        SaidHas Has here reaches (un_said here next part)
    un_has (p.un_with at primary names) role next e texts =
        names_have Has here reaches names (nothing (primary_receiver here next at primary)) (texts_right (flat_primary primary) (map ident names) texts)
        (primary_has primary _ next at e (texts_left (flat_primary primary) (map ident names) texts))

    primary_has : (part : p.Primary) (role : Role) (next at : ℕ) → f.primary_faults here.scope role at part ≡ [] → AllHaveText (flat_primary part) →
        ReceiverHas Has here reaches (primary_receiver here next at part)
    primary_has (p.name text) role next at e texts = named_has Has here reaches (sent_at here text at) texts.0.0
    primary_has (p.number minus size) role next at e texts =
        reaches.integer (integer_of minus size)
        (integer_fits minus size at e (texts_right (if minus then k.Oper (codes "-") ∷ [] else []) (k.Number size ∷ []) texts).0)
    primary_has (p.string text) role next at e texts = tt
    primary_has (p.symbol text) role next at e texts = tt
    primary_has p.nil_word role next at e texts = tt
    primary_has p.true_word role next at e texts = tt
    primary_has p.false_word role next at e texts = tt
    primary_has p.self_word role next at e texts = tt
    primary_has p.super_word role next at e texts = tt
    primary_has (p.outer_name name) role next at e texts = reaches.outer name (empty_right (bare_found role at) (outer_found here.scope.classes name) e)
    primary_has (p.paren inner) role next at e texts = expr_has inner next e (texts_left (flat_expr inner) (k.Close ∷ []) texts.1)
    primary_has (p.block_literal block) role next at e texts = reaches.block next
    primary_has (p.tuple items stop) role next at e texts = (
      items_have items next (empty_right (f.elements_found items) (f.items_faults here.scope items) e) (texts_left (flat_items items) _ texts.1),
      reaches.array (how_many (items_nodes here next items)) (few_elements items here next (empty_left (f.elements_found items) (f.items_faults here.scope items) e)),
    )

    items_have : (part : p.Exprs) (next : ℕ) → f.items_faults here.scope part ≡ [] → AllHaveText (flat_items part) → NodesHave Has (items_nodes here next part)
    items_have p.no_exprs next e texts = tt
    items_have (p.more_exprs expr rest) next e texts = (
      expr_has expr next (empty_left (f.expr_faults here.scope expr) (f.items_faults here.scope rest) e) (texts_left (flat_expr expr) (flat_more_items rest) texts),
      items_have rest (next + length (b.expr_blocks here.scope expr)) (empty_right (f.expr_faults here.scope expr) (f.items_faults here.scope rest) e)
          (more_items rest (texts_right (flat_expr expr) (flat_more_items rest) texts)),
    )
