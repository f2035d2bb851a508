-- The blocks of a body stand in it: they are bodies of its declaration and side, behind it, and it has an environment.
use Rattle.std.proofs.Common.{ℕ, ◌+◌, ◌++◌, length, refl, arith}
use Rattle.ns_tree.specs.Plain as p
use Rattle.ns_scope.specs.Bodies as b
use Rattle.ns_resolved.specs.Program as m
use Rattle.ns_resolved.specs.Expressions.{Standing}
use Rattle.ns_resolved.specs.Statements.{inside, block_body, expr_bodies, cascade_bodies, message_bodies, key_expr_bodies, keys_bodies, bin_bodies}
use Rattle.ns_resolved.specs.Statements.{opers_bodies, un_bodies, primary_bodies, items_bodies, block_bodies, bars_bodies, slots_bodies, slot_bodies}
use Rattle.ns_resolved.specs.Statements.{init_bodies, statements_bodies, list_bodies, statement_bodies}
use Rattle.ns_resolved.specs.Statements.{routine_bodies}
use Rattle.ns_resolved.proofs.BlockNodes.{block_has}
use Rattle.ns_resolved.specs.laws.Sits.{sits_behind}
use Rattle.ns_resolved.proofs.Placing.{Part, ArePlaced, two, inner_part, params_among}
use Rattle.ns_resolved.specs.laws.Numbering.{expr_counted, message_counted, key_expr_counted, bin_counted, un_counted, slot_counted, bars_counted, statement_counted}

module _ (meant : m.Meant) where
  mutual
    pub expr_placed : (part : p.Expr) (here : Standing) (next : ℕ) → Part meant here next (b.expr_blocks here.scope part) (expr_bodies here next part) →
        ArePlaced meant next (expr_bodies here next part)
    expr_placed (p.expr_with sets first more) here next part =
        two meant here next _ _ _ _ (key_expr_counted first here next) part (key_expr_placed first here next)
        (cascade_placed more here (next + length (b.key_expr_blocks here.scope first)))

    pub cascade_placed : (part : p.Cascade) (here : Standing) (next : ℕ) → Part meant here next (b.cascade_blocks here.scope part) (cascade_bodies here next part) →
        ArePlaced meant next (cascade_bodies here next part)
    cascade_placed p.no_messages here next part = tt
    cascade_placed (p.more_messages at message rest) here next part =
        two meant here next _ _ _ _ (message_counted message here next) part (message_placed message here next)
        (cascade_placed rest here (next + length (b.message_blocks here.scope message)))

    pub message_placed : (part : p.Message) (here : Standing) (next : ℕ) → Part meant here next (b.message_blocks here.scope part) (message_bodies here next part) →
        ArePlaced meant next (message_bodies here next part)
    message_placed (p.unary name) here next part = tt
    message_placed (p.binary name argument) here next part = un_placed argument here next part
    message_placed (p.keywords keys) here next part = keys_placed keys here next part

    pub key_expr_placed : (part : p.KeyExpr) (here : Standing) (next : ℕ) → Part meant here next (b.key_expr_blocks here.scope part) (key_expr_bodies here next part) →
        ArePlaced meant next (key_expr_bodies here next part)
    key_expr_placed (p.sent receiver keys) here next part =
        two meant here next _ _ _ _ (bin_counted receiver here next) part (bin_placed receiver here next)
        (keys_placed keys here (next + length (b.bin_blocks here.scope receiver)))
    key_expr_placed (p.implicit keys) here next part = keys_placed keys here next part

    pub keys_placed : (part : p.Keys) (here : Standing) (next : ℕ) → Part meant here next (b.keys_blocks here.scope part) (keys_bodies here next part) →
        ArePlaced meant next (keys_bodies here next part)
    keys_placed p.no_keys here next part = tt
    keys_placed (p.more_keys name argument rest) here next part =
        two meant here next _ _ _ _ (bin_counted argument here next) part (bin_placed argument here next)
        (keys_placed rest here (next + length (b.bin_blocks here.scope argument)))

    pub bin_placed : (part : p.BinExpr) (here : Standing) (next : ℕ) → Part meant here next (b.bin_blocks here.scope part) (bin_bodies here next part) →
        ArePlaced meant next (bin_bodies here next part)
    bin_placed (p.bin_with first more) here next part =
        two meant here next _ _ _ _ (un_counted first here next) part (un_placed first here next)
        (opers_placed more here (next + length (b.un_blocks here.scope first)))

    pub opers_placed : (part : p.Opers) (here : Standing) (next : ℕ) → Part meant here next (b.opers_blocks here.scope part) (opers_bodies here next part) →
        ArePlaced meant next (opers_bodies here next part)
    opers_placed p.no_opers here next part = tt
    opers_placed (p.more_opers name argument rest) here next part =
        two meant here next _ _ _ _ (un_counted argument here next) part (un_placed argument here next)
        (opers_placed rest here (next + length (b.un_blocks here.scope argument)))

    pub un_placed : (part : p.UnExpr) (here : Standing) (next : ℕ) → Part meant here next (b.un_blocks here.scope part) (un_bodies here next part) →
        ArePlaced meant next (un_bodies here next part)
    un_placed (p.un_with at primary names) here next part = primary_placed primary here next part

    pub primary_placed : (part : p.Primary) (here : Standing) (next : ℕ) → Part meant here next (b.primary_blocks here.scope part) (primary_bodies here next part) →
        ArePlaced meant next (primary_bodies here next part)
    primary_placed (p.paren inner) here next part = expr_placed inner here next part
    primary_placed (p.block_literal block) here next part = block_placed block here next part
    primary_placed (p.tuple items stop) here next part = items_placed items here next part
    primary_placed (p.name text) here next part = tt
    primary_placed (p.number minus size) here next part = tt
    primary_placed (p.string text) here next part = tt
    primary_placed (p.symbol text) here next part = tt
    primary_placed p.nil_word here next part = tt
    primary_placed p.true_word here next part = tt
    primary_placed p.false_word here next part = tt
    primary_placed p.self_word here next part = tt
    primary_placed p.super_word here next part = tt
    primary_placed (p.outer_name name) here next part = tt

    pub items_placed : (part : p.Exprs) (here : Standing) (next : ℕ) → Part meant here next (b.items_blocks here.scope part) (items_bodies here next part) →
        ArePlaced meant next (items_bodies here next part)
    items_placed p.no_exprs here next part = tt
    items_placed (p.more_exprs expr rest) here next part =
        two meant here next _ _ _ _ (expr_counted expr here next) part (expr_placed expr here next)
        (items_placed rest here (next + length (b.expr_blocks here.scope expr)))

    pub block_placed : (part : p.Block) (here : Standing) (next : ℕ) → Part meant here next (b.block_blocks here.scope part) (block_bodies here next part) →
        ArePlaced meant next (block_bodies here next part)
    block_placed (p.block_with params bars body) here next part =
        let block = p.block_with params bars body in
        let at = inside here next params bars in (
          record {
            class = part.known;
            params = params_among params bars;
            stands = (here.body, part.holder, refl, part.later, part.there, part.class, part.side, part.holds (omega arith));
            blocks = block_has meant at (length params) bars body (sits_behind meant.bodies next (block_body here next block) (routine_bodies at bars body) part.sits);
          },
          two meant at (next + 1) _ _ _ _ (bars_counted bars at (next + 1))
              (inner_part meant at (block_body here next block) (b.bars_blocks at.scope bars ++ b.statements_blocks at.scope body)
              (bars_bodies at (next + 1) bars ++ statements_bodies at (next + 1 + length (b.bars_blocks at.scope bars)) body) refl refl refl part.known part.sits)
              (bars_placed bars at (next + 1)) (statements_placed body at (next + 1 + length (b.bars_blocks at.scope bars))),
        )

    pub bars_placed : (part : p.Bars) (here : Standing) (next : ℕ) → Part meant here next (b.bars_blocks here.scope part) (bars_bodies here next part) →
        ArePlaced meant next (bars_bodies here next part)
    bars_placed p.no_bars here next part = tt
    bars_placed (p.bars_around slots) here next part = slots_placed slots here next part

    pub slots_placed : (part : p.Slots) (here : Standing) (next : ℕ) → Part meant here next (b.slots_blocks here.scope part) (slots_bodies here next part) →
        ArePlaced meant next (slots_bodies here next part)
    slots_placed p.no_slots here next part = tt
    slots_placed (p.more_slots slot rest) here next part =
        two meant here next _ _ _ _ (slot_counted slot here next) part (slot_placed slot here next)
        (slots_placed rest here (next + length (b.slot_blocks here.scope slot)))

    pub slot_placed : (part : p.Slot) (here : Standing) (next : ℕ) → Part meant here next (b.slot_blocks here.scope part) (slot_bodies here next part) →
        ArePlaced meant next (slot_bodies here next part)
    slot_placed (p.slot_with access name init) here next part = init_placed init here next part

    pub init_placed : (part : p.SlotInit) (here : Standing) (next : ℕ) → Part meant here next (b.init_blocks here.scope part) (init_bodies here next part) →
        ArePlaced meant next (init_bodies here next part)
    init_placed (p.bare stop) here next part = tt
    init_placed (p.fixed value) here next part = expr_placed value here next part
    init_placed (p.mutable value) here next part = expr_placed value here next part

    pub statements_placed : (part : p.Statements) (here : Standing) (next : ℕ) → Part meant here next (b.statements_blocks here.scope part) (statements_bodies here next part) →
        ArePlaced meant next (statements_bodies here next part)
    statements_placed (p.statements_with list stop) here next part = list_placed list here next part

    pub list_placed : (part : p.StatementList) (here : Standing) (next : ℕ) → Part meant here next (b.list_blocks here.scope part) (list_bodies here next part) →
        ArePlaced meant next (list_bodies here next part)
    list_placed p.no_statements here next part = tt
    list_placed (p.more_statements statement rest) here next part =
        two meant here next _ _ _ _ (statement_counted statement here next) part (statement_placed statement here next)
        (list_placed rest here (next + length (b.statement_blocks here.scope statement)))

    pub statement_placed : (part : p.Statement) (here : Standing) (next : ℕ) → Part meant here next (b.statement_blocks here.scope part) (statement_bodies here next part) →
        ArePlaced meant next (statement_bodies here next part)
    statement_placed (p.statement_with caret expr) here next part = expr_placed expr here next part
