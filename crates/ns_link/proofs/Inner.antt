-- What the bodies of the blocks in an expression say.
use Rattle.std.proofs.Common.{ℕ, zero, suc, ◌+◌, List, [], ◌++◌, length, refl}
use Rattle.std.specs.Prelude.{Bool, true, false, All}
use Rattle.std.proofs.lemmas.List.Elements.{All-nil, All-cons, All-append}
use Rattle.ns_base.specs.declared.place.Place.{Place}
use Rattle.ns_tree.specs.declared.token.Kind.TheVariants as k
use Rattle.ns_tree.specs.declared.tree.Named.{Named}
use Rattle.ns_tree.specs.Flat.{bar}
use Rattle.ns_tree.specs.Forms.{listed_of, once_or_more_of}
use Rattle.ns_tree.specs.Grammar as g
use Rattle.ns_tree.specs.Lists.{key_list, oper_list, message_list, expr_list, statement_list}
use Rattle.ns_tree.specs.Plain as p
use Rattle.ns_tree.specs.Rule.{Rule, ◌&◌, many, maybe, placed, ◌▸◌, ◌◂◌, once_or_more}
use Rattle.ns_scope.specs.Bodies as b
use Rattle.ns_scope.specs.Scopes.{block_scope}
use Rattle.ns_resolved.specs.Program as m
use Rattle.ns_resolved.specs.Expressions.{Standing}
use Rattle.ns_resolved.specs.Statements.{inside, block_body, expr_bodies, cascade_bodies, message_bodies, key_expr_bodies, keys_bodies, bin_bodies, opers_bodies}
use Rattle.ns_resolved.specs.Statements.{un_bodies, primary_bodies, items_bodies, block_bodies, bars_bodies, slots_bodies, init_bodies}
use Rattle.ns_resolved.specs.Statements.{statements_bodies, list_bodies, statement_bodies}
use Rattle.ns_link.proofs.Held.{Held, AllHeld, both, behind, before, all_held}
use Rattle.ns_link.proofs.Says.{BodySays}
use Rattle.ns_link.proofs.SoundExpressions.{tuple_held}
use Rattle.ns_link.proofs.Blocks.{AreLocals, SlotsHeld, BarsHeld, local_gives, bars_held, value_held, mutable_held, statements_held, statement_expr, params_held}
use Rattle.ns_link.proofs.Blocks.{locals_named, bars_say, statements_say}
use Rattle.ns_link.proofs.SoundTokens.{operator_of}

module _ (Fine : Place → Type 0) where
  abbrev pub BodiesSay : List m.Body → Type 0
  BodiesSay bodies = All (BodySays Fine) bodies

  none : BodiesSay []
  none = All-nil (BodySays Fine)

  pub two : (left right : List m.Body) → BodiesSay left → BodiesSay right → BodiesSay (left ++ right)
  two left right l r = All-append (BodySays Fine) left right l r

  module _ (marks : List Place) where
    abbrev H : {A : Type 0} → Rule A → A → Type 0
    H r a = Held Fine marks r a

    -- keys, with a receiver or without, and those of a message
    message_keys : (keys : p.Keys) (depth : ℕ) (slot : Bool) → H (g.message (g.primary depth) (operator_of slot)) (p.keywords keys) →
        AllHeld Fine marks (g.key & g.bin (g.primary depth) (operator_of slot)) (key_list keys)
    message_keys p.no_keys depth slot h = tt
    message_keys (p.more_keys name argument rest) depth slot h =
        all_held Fine marks (g.key & g.bin (g.primary depth) (operator_of slot)) (key_list (p.more_keys name argument rest)) h

    implicit_keys : (keys : p.Keys) (depth : ℕ) (slot : Bool) → H (g.key_expr (g.primary depth) (operator_of slot)) (p.implicit keys) →
        AllHeld Fine marks (g.key & g.bin (g.primary depth) (operator_of slot)) (key_list keys)
    implicit_keys p.no_keys depth slot h = tt
    implicit_keys (p.more_keys name argument rest) depth slot h =
        all_held Fine marks (g.key & g.bin (g.primary depth) (operator_of slot)) (key_list (p.more_keys name argument rest)) h

    -- the parts of a block
    block_params : (depth : ℕ) (params : List Named) (bars : p.Bars) (body : p.Statements) → H (g.block (g.primary depth)) (p.block_with params bars body) →
        AreLocals Fine marks params × BarsHeld Fine marks depth bars × H (g.stmts (g.primary depth)) body
    block_params depth params bars body h =
        let P = g.primary depth in
        let head = maybe (once_or_more (k.Colon ▸ g.ident) ◂ bar) in
        let rest = g.bars P (g.local P) & g.stmts P ◂ k.CloseBlock in
        let whole = behind Fine marks k.OpenBlock (head & rest) (once_or_more_of params, (bars, body)) h in
        let parts = both Fine marks head rest (once_or_more_of params) (bars, body) whole in
        let others = both Fine marks (g.bars P (g.local P)) (g.stmts P ◂ k.CloseBlock) bars body parts.1 in (
          params_held Fine marks params parts.0,
          bars_held Fine marks depth (g.local P) (local_gives Fine marks depth) bars others.0,
          before Fine marks (g.stmts P) k.CloseBlock body others.1,
        )

  -- the body of a block
  block_says : (depth : ℕ) (here : Standing) (number : ℕ) (params : List Named) (bars : p.Bars) (body : p.Statements) → AreLocals Fine here.marks params →
      BarsHeld Fine here.marks depth bars → Held Fine here.marks (g.stmts (g.primary depth)) body → BodySays Fine (block_body here number (p.block_with params bars body))
  block_says depth here number params bars body are held h =
      let inner = inside here number params bars in
      record {
        locals = locals_named Fine here.marks params bars depth are held;
        does = (bars_say Fine inner bars depth _ _ held, statements_say Fine inner body depth _ h);
      }

  mutual
    pub expr_say : (part : p.Expr) (depth : ℕ) (slot : Bool) (here : Standing) (next : ℕ) →
        Held Fine here.marks (g.expr (g.primary depth) (operator_of slot)) part → BodiesSay (expr_bodies here next part)
    expr_say (p.expr_with sets first more) depth slot here next h =
        let key_expr = g.key_expr (g.primary depth) (operator_of slot) in
        let messages = g.semi & g.message (g.primary depth) (operator_of slot) in
        let parts = both Fine here.marks (many g.set_key) (key_expr & many messages) sets (first, message_list more) h in
        let others = both Fine here.marks key_expr (many messages) first (message_list more) parts.1 in
        two (key_expr_bodies here next first) (cascade_bodies here _ more) (key_expr_say first depth slot here next others.0)
        (cascade_say more depth slot here _ (all_held Fine here.marks messages (message_list more) others.1))

    cascade_say : (part : p.Cascade) (depth : ℕ) (slot : Bool) (here : Standing) (next : ℕ) →
        AllHeld Fine here.marks (g.semi & g.message (g.primary depth) (operator_of slot)) (message_list part) → BodiesSay (cascade_bodies here next part)
    cascade_say p.no_messages depth slot here next h = none
    cascade_say (p.more_messages at message rest) depth slot here next h =
        two (message_bodies here next message) (cascade_bodies here _ rest)
        (message_say message depth slot here next (both Fine here.marks g.semi (g.message (g.primary depth) (operator_of slot)) at message h.0).1)
        (cascade_say rest depth slot here _ h.1)

    pub message_say : (part : p.Message) (depth : ℕ) (slot : Bool) (here : Standing) (next : ℕ) →
        Held Fine here.marks (g.message (g.primary depth) (operator_of slot)) part → BodiesSay (message_bodies here next part)
    message_say (p.unary name) depth slot here next h = none
    message_say (p.binary name argument) depth slot here next h =
        un_say argument depth here next (both Fine here.marks (operator_of slot) (g.un (g.primary depth)) name argument h).1
    message_say (p.keywords keys) depth slot here next h = keys_say keys depth slot here next (message_keys here.marks keys depth slot h)

    key_expr_say : (part : p.KeyExpr) (depth : ℕ) (slot : Bool) (here : Standing) (next : ℕ) →
        Held Fine here.marks (g.key_expr (g.primary depth) (operator_of slot)) part → BodiesSay (key_expr_bodies here next part)
    key_expr_say (p.sent receiver keys) depth slot here next h =
        let bin = g.bin (g.primary depth) (operator_of slot) in
        let parts = both Fine here.marks bin (many (g.key & bin)) receiver (key_list keys) h in
        two (bin_bodies here next receiver) (keys_bodies here _ keys) (bin_say receiver depth slot here next parts.0)
        (keys_say keys depth slot here _ (all_held Fine here.marks (g.key & bin) (key_list keys) parts.1))
    key_expr_say (p.implicit keys) depth slot here next h = keys_say keys depth slot here next (implicit_keys here.marks keys depth slot h)

    keys_say : (part : p.Keys) (depth : ℕ) (slot : Bool) (here : Standing) (next : ℕ) →
        AllHeld Fine here.marks (g.key & g.bin (g.primary depth) (operator_of slot)) (key_list part) → BodiesSay (keys_bodies here next part)
    keys_say p.no_keys depth slot here next h = none
    keys_say (p.more_keys name argument rest) depth slot here next h =
        two (bin_bodies here next argument) (keys_bodies here _ rest)
        (bin_say argument depth slot here next (both Fine here.marks g.key (g.bin (g.primary depth) (operator_of slot)) name argument h.0).1)
        (keys_say rest depth slot here _ h.1)

    bin_say : (part : p.BinExpr) (depth : ℕ) (slot : Bool) (here : Standing) (next : ℕ) →
        Held Fine here.marks (g.bin (g.primary depth) (operator_of slot)) part → BodiesSay (bin_bodies here next part)
    bin_say (p.bin_with first more) depth slot here next h =
        let un = g.un (g.primary depth) in
        let parts = both Fine here.marks un (many (operator_of slot & un)) first (oper_list more) h in
        two (un_bodies here next first) (opers_bodies here _ more) (un_say first depth here next parts.0)
        (opers_say more depth slot here _ (all_held Fine here.marks (operator_of slot & un) (oper_list more) parts.1))

    opers_say : (part : p.Opers) (depth : ℕ) (slot : Bool) (here : Standing) (next : ℕ) →
        AllHeld Fine here.marks (operator_of slot & g.un (g.primary depth)) (oper_list part) → BodiesSay (opers_bodies here next part)
    opers_say p.no_opers depth slot here next h = none
    opers_say (p.more_opers name argument rest) depth slot here next h =
        two (un_bodies here next argument) (opers_bodies here _ rest)
        (un_say argument depth here next (both Fine here.marks (operator_of slot) (g.un (g.primary depth)) name argument h.0).1)
        (opers_say rest depth slot here _ h.1)

    un_say : (part : p.UnExpr) (depth : ℕ) (here : Standing) (next : ℕ) → Held Fine here.marks (g.un (g.primary depth)) part → BodiesSay (un_bodies here next part)
    un_say (p.un_with at primary names) depth here next h =
        let parts = both Fine here.marks (placed (g.primary depth)) (many g.ident) (at, primary) names h in
        primary_say primary depth here next (parts.0.0, parts.0.1.1, parts.0.2)

    primary_say : (part : p.Primary) (depth : ℕ) (here : Standing) (next : ℕ) → Held Fine here.marks (g.primary depth) part → BodiesSay (primary_bodies here next part)
    primary_say (p.name text) depth here next h = none
    primary_say (p.number minus size) depth here next h = none
    primary_say (p.string text) depth here next h = none
    primary_say (p.symbol text) depth here next h = none
    primary_say p.nil_word depth here next h = none
    primary_say p.true_word depth here next h = none
    primary_say p.false_word depth here next h = none
    primary_say p.self_word depth here next h = none
    primary_say p.super_word depth here next h = none
    primary_say (p.outer_name name) depth here next h = none
    primary_say (p.paren inner) zero here next h = absurd h.1
    primary_say (p.paren inner) (suc depth) here next h =
        let expr = g.expr (g.primary depth) g.oper in
        expr_say inner depth false here next (before Fine here.marks expr k.Close inner (behind Fine here.marks k.Open (expr ◂ k.Close) inner h))
    primary_say (p.block_literal block) zero here next h = absurd h.1
    primary_say (p.block_literal block) (suc depth) here next h = block_say block depth here next h
    primary_say (p.tuple items stop) zero here next h = absurd h.1
    primary_say (p.tuple items stop) (suc depth) here next h =
        items_say items depth here next (tuple_held Fine here depth items stop h.0 (listed_of (expr_list items) stop) refl h.1 h.2)

    items_say : (part : p.Exprs) (depth : ℕ) (here : Standing) (next : ℕ) → AllHeld Fine here.marks (g.expr (g.primary depth) g.oper) (expr_list part) →
        BodiesSay (items_bodies here next part)
    items_say p.no_exprs depth here next h = none
    items_say (p.more_exprs expr rest) depth here next h =
        two (expr_bodies here next expr) (items_bodies here _ rest) (expr_say expr depth false here next h.0) (items_say rest depth here _ h.1)

    block_say : (part : p.Block) (depth : ℕ) (here : Standing) (next : ℕ) → Held Fine here.marks (g.block (g.primary depth)) part → BodiesSay (block_bodies here next part)
    block_say (p.block_with params bars body) depth here next h =
        let parts = block_params here.marks depth params bars body h in
        let inner = inside here next params bars in
        All-cons (BodySays Fine) (block_body here next (p.block_with params bars body)) _ (block_says depth here next params bars body parts.0 parts.1 parts.2)
        (two (bars_bodies inner (next + 1) bars) (statements_bodies inner (next + 1 + length (b.bars_blocks (block_scope here.scope params bars) bars)) body)
        (bars_bodies_say bars depth inner (next + 1) parts.1)
        (statements_bodies_say body depth inner (next + 1 + length (b.bars_blocks (block_scope here.scope params bars) bars)) parts.2))

    pub bars_bodies_say : (part : p.Bars) (depth : ℕ) (here : Standing) (next : ℕ) → BarsHeld Fine here.marks depth part → BodiesSay (bars_bodies here next part)
    bars_bodies_say p.no_bars depth here next h = none
    bars_bodies_say (p.bars_around slots) depth here next h = slots_bodies_say slots depth here next h

    slots_bodies_say : (part : p.Slots) (depth : ℕ) (here : Standing) (next : ℕ) → SlotsHeld Fine here.marks depth part → BodiesSay (slots_bodies here next part)
    slots_bodies_say p.no_slots depth here next h = none
    slots_bodies_say (p.more_slots (p.slot_with access name init) rest) depth here next h =
        two (init_bodies here next init) (slots_bodies here _ rest) (init_say init depth here next h.1) (slots_bodies_say rest depth here _ h.2)

    init_say : (part : p.SlotInit) (depth : ℕ) (here : Standing) (next : ℕ) → Held Fine here.marks (g.init (g.primary depth)) part → BodiesSay (init_bodies here next part)
    init_say (p.bare stop) depth here next h = none
    init_say (p.fixed value) depth here next h = expr_say value depth true here next (value_held Fine here.marks depth value h)
    init_say (p.mutable value) depth here next h = expr_say value depth true here next (mutable_held Fine here.marks depth value h)

    pub statements_bodies_say : (part : p.Statements) (depth : ℕ) (here : Standing) (next : ℕ) → Held Fine here.marks (g.stmts (g.primary depth)) part →
        BodiesSay (statements_bodies here next part)
    statements_bodies_say (p.statements_with list stop) depth here next h = list_say list depth here next (statements_held Fine here.marks depth list stop h)

    list_say : (part : p.StatementList) (depth : ℕ) (here : Standing) (next : ℕ) → AllHeld Fine here.marks (g.stmt (g.primary depth)) (statement_list part) →
        BodiesSay (list_bodies here next part)
    list_say p.no_statements depth here next h = none
    list_say (p.more_statements statement rest) depth here next h =
        two (statement_bodies here next statement) (list_bodies here _ rest) (statement_say statement depth here next h.0) (list_say rest depth here _ h.1)

    statement_say : (part : p.Statement) (depth : ℕ) (here : Standing) (next : ℕ) → Held Fine here.marks (g.stmt (g.primary depth)) part →
        BodiesSay (statement_bodies here next part)
    statement_say (p.statement_with caret expr) depth here next h = expr_say expr depth false here next (statement_expr Fine here.marks depth caret expr h)
