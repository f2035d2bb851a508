-- What the expressions of a tree say.
use Rattle.std.proofs.Common.{◌≡◌, ℕ, zero, suc, ◌+◌, List, [], ◌∷◌, ◌++◌, length, refl, sym, ap, subst, inr}
use Rattle.std.specs.Prelude.{Bool, false, Option, Some, None, option_map}
use Rattle.ns_base.specs.declared.place.Place.{Place}
use Rattle.ns_tree.specs.declared.token.Kind.TheVariants as k
use Rattle.ns_tree.specs.declared.tree.Named.{Named}
use Rattle.ns_tree.specs.Flat.{flat_primary}
use Rattle.ns_tree.specs.Forms.{listed_of, primary_form}
use Rattle.ns_tree.specs.Grammar as g
use Rattle.ns_tree.specs.Lists.{key_list, oper_list, message_list, expr_list}
use Rattle.ns_tree.specs.Plain as p
use Rattle.ns_tree.specs.Rule.{Rule, ◌&◌, many, placed, listed, ◌◂◌, Listed, either, GoodFrom, flat_from}
use Rattle.ns_tree.specs.laws.FileFlats.{primary_same}
use Rattle.ns_scope.specs.Bodies as b
use Rattle.ns_scope.specs.Resolve.{resolve}
use Rattle.ns_resolved.specs.Expressions.{Standing, Said, nothing, said, message_with, as_receiver, names_said, name_sent, keys_sent, sent_at, joined}
use Rattle.ns_resolved.specs.Expressions.{expr_node, cascade_messages, message_said, key_expr_said, keys_nodes, bin_said, opers_said, un_node, un_said}
use Rattle.ns_resolved.specs.Expressions.{primary_receiver, items_nodes, one}
use Rattle.ns_link.proofs.Held.{Told, Held, AllHeld, both, behind, before, all_held, listed_held}
use Rattle.ns_link.proofs.Says.{SentSays, NodeSays, NodesSay}
use Rattle.ns_link.proofs.SoundSending.{ReceiverSays, MessageSays, SaidSays, AllSay, receiver_says, as_value_says, names_say, keys_say, cascade_says, name_says, sets_say}
use Rattle.ns_link.proofs.SoundTokens.{operator_of, operator_gives, ident_gives, key_held}
use Rattle.ns_link.proofs.Words.{Spoken, KeyTexts, all_of, spoken_keys, spoken_name, text_short, symbol_named}

-- the texts of keys
abbrev texts_of : p.Keys → List (List ℕ)
texts_of p.no_keys = []
texts_of (p.more_keys name argument rest) = name.text ∷ texts_of rest

joined_all : (keys : p.Keys) → joined keys ≡ all_of (texts_of keys)
joined_all p.no_keys = refl
joined_all (p.more_keys name argument rest) = ap (λ x. name.text ++ x) (joined_all rest)

module _ (Fine : Place → Type 0) (here : Standing) where
  abbrev H : {A : Type 0} → Rule A → A → Type 0
  H r a = Held Fine here.marks r a

  abbrev All : {A : Type 0} → Rule A → List A → Type 0
  All r items = AllHeld Fine here.marks r items

  -- ---- keys

  key_texts : (bin : Rule p.BinExpr) (keys : p.Keys) → All (g.key & bin) (key_list keys) → KeyTexts (texts_of keys)
  key_texts bin p.no_keys h = tt
  key_texts bin (p.more_keys name argument rest) h =
      let first = both Fine here.marks g.key bin name argument h.0 in
      let key = key_held Fine here.marks name first.0 in
      (key.0, key.1, key_texts bin rest h.1)

  -- a keyword message with keys
  keys_sent_says : (bin : Rule p.BinExpr) (keys : p.Keys) (name : Named) (argument : p.BinExpr) (rest : p.Keys) → keys ≡ p.more_keys name argument rest →
      All (g.key & bin) (key_list keys) → SentSays Fine (keys_sent here keys)
  keys_sent_says bin p.no_keys name argument rest e h = absurd (cc (e))
  keys_sent_says bin (p.more_keys first value others) name argument rest e h =
      let keys = p.more_keys first value others in
      let texts = key_texts bin keys h in
      let key = key_held Fine here.marks first (both Fine here.marks g.key bin first value h.0).0 in
      (subst Spoken (sym (joined_all keys)) (spoken_keys first.text (texts_of others) texts), key.2)

  -- keys of a message, and without a receiver: there is one
  keywords_held : (keys : p.Keys) (depth : ℕ) (slot : Bool) → H (g.message (g.primary depth) (operator_of slot)) (p.keywords keys) →
      All (g.key & g.bin (g.primary depth) (operator_of slot)) (key_list keys) × SentSays Fine (keys_sent here keys)
  keywords_held p.no_keys depth slot h = absurd h.1
  keywords_held (p.more_keys name argument rest) depth slot h =
      let bin = g.bin (g.primary depth) (operator_of slot) in
      let keys = p.more_keys name argument rest in
      let held = all_held Fine here.marks (g.key & bin) (key_list keys) h in
      (held, keys_sent_says bin keys name argument rest refl held)

  implicit_held : (keys : p.Keys) (depth : ℕ) (slot : Bool) → H (g.key_expr (g.primary depth) (operator_of slot)) (p.implicit keys) →
      All (g.key & g.bin (g.primary depth) (operator_of slot)) (key_list keys) × SentSays Fine (keys_sent here keys)
  implicit_held p.no_keys depth slot h = absurd h.1
  implicit_held (p.more_keys name argument rest) depth slot h =
      let bin = g.bin (g.primary depth) (operator_of slot) in
      let keys = p.more_keys name argument rest in
      let held = all_held Fine here.marks (g.key & bin) (key_list keys) h in
      (held, keys_sent_says bin keys name argument rest refl held)

  -- ---- primaries

  leaf_told : (depth : ℕ) (part : p.Primary) (at : ℕ) → H (placed (g.primary depth)) (at, part) → Told Fine here.marks at (flat_primary part)
  leaf_told depth part at h =
      let told = subst (Told Fine here.marks h.0) (primary_same depth h.0 part h.1.1) h.2 in
      subst (λ n. Told Fine here.marks n (flat_primary part)) (sym h.1.0) told

  pub tuple_held : (depth : ℕ) (items : p.Exprs) (stop : Bool) (n : ℕ) (l : Option (Listed p.Expr)) → listed_of (expr_list items) stop ≡ l →
      GoodFrom primary_form (either g.leaf (g.bracketed (g.primary depth))) n (option_map (λ x. inr (inr (inr x))) l) →
      Told Fine here.marks n (flat_from primary_form (either g.leaf (g.bracketed (g.primary depth))) (option_map (λ x. inr (inr (inr x))) l)) →
      All (g.expr (g.primary depth) g.oper) (expr_list items)
  tuple_held depth items stop n None e good told = absurd good
  tuple_held depth items stop n (Some l) e good told =
      let expr = g.expr (g.primary depth) g.oper in
      listed_held Fine here.marks expr k.Stop (expr_list items) stop l e
      (before Fine here.marks (listed expr k.Stop) k.CloseTuple l
      (behind Fine here.marks k.OpenTuple (listed expr k.Stop ◂ k.CloseTuple) l (n, good, told)))

  -- ---- expressions

  mutual
    pub expr_says : (part : p.Expr) (depth : ℕ) (slot : Bool) (next : ℕ) → H (g.expr (g.primary depth) (operator_of slot)) part →
        NodeSays Fine (expr_node here next part)
    expr_says (p.expr_with sets first more) depth slot next h =
        let primary = g.primary depth in
        let key_expr = g.key_expr primary (operator_of slot) in
        let messages = g.semi & g.message primary (operator_of slot) in
        let parts = both Fine here.marks (many g.set_key) (key_expr & many messages) sets (first, message_list more) h in
        let others = both Fine here.marks key_expr (many messages) first (message_list more) parts.1 in
        let further = next + length (b.key_expr_blocks here.scope first) in
        sets_say Fine here sets _ (all_held Fine here.marks g.set_key sets parts.0)
        (cascade_says Fine here (key_expr_said here next first) (cascade_messages here further more) (key_expr_says first depth slot next others.0)
        (cascade_messages_say more depth slot further (all_held Fine here.marks messages (message_list more) others.1)))

    cascade_messages_say : (part : p.Cascade) (depth : ℕ) (slot : Bool) (next : ℕ) →
        All (g.semi & g.message (g.primary depth) (operator_of slot)) (message_list part) → AllSay Fine here (cascade_messages here next part)
    cascade_messages_say p.no_messages depth slot next h = tt
    cascade_messages_say (p.more_messages at message rest) depth slot next h = (
      message_says message depth slot next (both Fine here.marks g.semi (g.message (g.primary depth) (operator_of slot)) at message h.0).1,
      cascade_messages_say rest depth slot (next + length (b.message_blocks here.scope message)) h.1,
    )

    pub message_says : (part : p.Message) (depth : ℕ) (slot : Bool) (next : ℕ) →
        H (g.message (g.primary depth) (operator_of slot)) part → MessageSays Fine here (message_said here next part).sent (message_said here next part).arguments
    message_says (p.unary name) depth slot next h = (tt, ident_gives Fine here.marks name h)
    message_says (p.binary name argument) depth slot next h =
        let parts = both Fine here.marks (operator_of slot) (g.un (g.primary depth)) name argument h in
        ((un_node_says argument depth next parts.1, tt), operator_gives Fine here.marks slot name parts.0)
    message_says (p.keywords keys) depth slot next h =
        let held = keywords_held keys depth slot h in (keys_nodes_say keys depth slot next held.0, held.1)

    key_expr_says : (part : p.KeyExpr) (depth : ℕ) (slot : Bool) (next : ℕ) →
        H (g.key_expr (g.primary depth) (operator_of slot)) part → SaidSays Fine here (key_expr_said here next part)
    key_expr_says (p.sent receiver keys) depth slot next h =
        let bin = g.bin (g.primary depth) (operator_of slot) in
        let further = next + length (b.bin_blocks here.scope receiver) in
        let parts = both Fine here.marks bin (many (g.key & bin)) receiver (key_list keys) h in
        let held = all_held Fine here.marks (g.key & bin) (key_list keys) parts.1 in
        keys_say Fine here keys (bin_said here next receiver) (keys_nodes here further keys) (bin_says receiver depth slot next parts.0)
        (keys_nodes_say keys depth slot further held) (λ name argument rest e. keys_sent_says bin keys name argument rest e held)
    key_expr_says (p.implicit keys) depth slot next h =
        let held = implicit_held keys depth slot h in (keys_nodes_say keys depth slot next held.0, held.1)

    keys_nodes_say : (part : p.Keys) (depth : ℕ) (slot : Bool) (next : ℕ) →
        All (g.key & g.bin (g.primary depth) (operator_of slot)) (key_list part) → NodesSay Fine (keys_nodes here next part)
    keys_nodes_say p.no_keys depth slot next h = tt
    keys_nodes_say (p.more_keys name argument rest) depth slot next h = (
      as_value_says Fine here (bin_said here next argument)
          (bin_says argument depth slot next (both Fine here.marks g.key (g.bin (g.primary depth) (operator_of slot)) name argument h.0).1),
      keys_nodes_say rest depth slot (next + length (b.bin_blocks here.scope argument)) h.1,
    )

    bin_says : (part : p.BinExpr) (depth : ℕ) (slot : Bool) (next : ℕ) → H (g.bin (g.primary depth) (operator_of slot)) part →
        SaidSays Fine here (bin_said here next part)
    bin_says (p.bin_with first more) depth slot next h =
        let un = g.un (g.primary depth) in
        let parts = both Fine here.marks un (many (operator_of slot & un)) first (oper_list more) h in
        opers_say more depth slot (next + length (b.un_blocks here.scope first)) (un_said here next first)
        (all_held Fine here.marks (operator_of slot & un) (oper_list more) parts.1) (un_says first depth next parts.0)

    opers_say : (part : p.Opers) (depth : ℕ) (slot : Bool) (next : ℕ) (last : Said) →
        All (operator_of slot & g.un (g.primary depth)) (oper_list part) → SaidSays Fine here last → SaidSays Fine here (opers_said here next last part)
    opers_say p.no_opers depth slot next last held h = h
    opers_say (p.more_opers name argument rest) depth slot next last held h =
        let parts = both Fine here.marks (operator_of slot) (g.un (g.primary depth)) name argument held.0 in
        opers_say rest depth slot (next + length (b.un_blocks here.scope argument))
        (said (as_receiver here last) (message_with (name_sent here name) (one (un_node here next argument)))) held.1
        (receiver_says Fine here last h, ((un_node_says argument depth next parts.1, tt), operator_gives Fine here.marks slot name parts.0))

    un_node_says : (part : p.UnExpr) (depth next : ℕ) → H (g.un (g.primary depth)) part → NodeSays Fine (un_node here next part)
    un_node_says (p.un_with at primary names) depth next h =
        let parts = both Fine here.marks (placed (g.primary depth)) (many g.ident) (at, primary) names h in
        as_value_says Fine here (names_said here (nothing (primary_receiver here next at primary)) names)
        (names_say Fine here names (nothing (primary_receiver here next at primary)) (all_held Fine here.marks g.ident names parts.1)
        (primary_says primary depth next at parts.0))

    un_says : (part : p.UnExpr) (depth next : ℕ) → H (g.un (g.primary depth)) part → SaidSays Fine here (un_said here next part)
    un_says (p.un_with at primary names) depth next h =
        let parts = both Fine here.marks (placed (g.primary depth)) (many g.ident) (at, primary) names h in
        names_say Fine here names (nothing (primary_receiver here next at primary)) (all_held Fine here.marks g.ident names parts.1)
        (primary_says primary depth next at parts.0)

    primary_says : (part : p.Primary) (depth next at : ℕ) → H (placed (g.primary depth)) (at, part) → ReceiverSays Fine here (primary_receiver here next at part)
    primary_says (p.name text) depth next at h =
        let told = leaf_told depth (p.name text) at h in
        name_says Fine here (resolve here.scope text) (sent_at here text at) (spoken_name text told.0.0 told.1, told.2)
    primary_says (p.number minus size) depth next at h = tt
    primary_says (p.string text) depth next at h = text_short text (leaf_told depth (p.string text) at h).1
    primary_says (p.symbol text) depth next at h = let told = leaf_told depth (p.symbol text) at h in symbol_named text told.0 told.1
    primary_says p.nil_word depth next at h = tt
    primary_says p.true_word depth next at h = tt
    primary_says p.false_word depth next at h = tt
    primary_says p.self_word depth next at h = tt
    primary_says p.super_word depth next at h = tt
    primary_says (p.outer_name name) depth next at h = tt
    primary_says (p.paren inner) zero next at h = absurd h.1.1
    primary_says (p.paren inner) (suc depth) next at h =
        let expr = g.expr (g.primary depth) g.oper in
        expr_says inner depth false next
        (before Fine here.marks expr k.Close inner (behind Fine here.marks k.Open (expr ◂ k.Close) inner (h.0, h.1.1, h.2)))
    primary_says (p.block_literal block) depth next at h = tt
    primary_says (p.tuple items stop) zero next at h = absurd h.1.1
    primary_says (p.tuple items stop) (suc depth) next at h =
        items_say items depth next (tuple_held depth items stop h.0 (listed_of (expr_list items) stop) refl h.1.1 h.2)

    items_say : (part : p.Exprs) (depth next : ℕ) → All (g.expr (g.primary depth) g.oper) (expr_list part) → NodesSay Fine (items_nodes here next part)
    items_say p.no_exprs depth next h = tt
    items_say (p.more_exprs expr rest) depth next h =
        (expr_says expr depth false next h.0, items_say rest depth (next + length (b.expr_blocks here.scope expr)) h.1)
