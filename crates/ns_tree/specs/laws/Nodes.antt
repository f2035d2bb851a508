-- The plain form of a node, by its fields or by what its variant holds. Code that reads a tree cites these.
use Rattle.std.proofs.Common.{◌≡◌, ◌∙◌, ap, rules, ℕ, [], Bool, Option, Some, None, option_map}
use Rattle.std.specs.Global.{Vec, Box}
use Rattle.ns_tree.specs.Plain as p
use Rattle.ns_tree.specs.PlainOf.{expr_of, full_expr_of, message_of, key_expr_of, bin_of, un_of, primary_of, block_of, statements_of, class_of, side_of}
use Rattle.ns_tree.specs.PlainOf.{received, cascade_of, keys_of, exprs_of, slots_of, bars_of, statement_list_of, members_of, class_side_of, pattern_of, clause_of}
use Rattle.ns_tree.specs.declared.tree.Expr.TheBlock as b
use Rattle.ns_tree.specs.declared.tree.Expr.TheViews as m
use Rattle.ns_tree.specs.declared.tree.What.TheBlock as c
use Rattle.ns_tree.specs.declared.tree.What.TheViews as w
use Rattle.ns_tree.specs.declared.tree.Named.{Named}
use Rattle.ns_tree.specs.declared.tree.Expr.{Expr}
use Rattle.ns_tree.specs.declared.tree.FullExpr.{FullExpr}
use Rattle.ns_tree.specs.declared.tree.Message.{Message}
use Rattle.ns_tree.specs.declared.tree.KeyExpr.{KeyExpr}
use Rattle.ns_tree.specs.declared.tree.BinExpr.{BinExpr}
use Rattle.ns_tree.specs.declared.tree.UnExpr.{UnExpr}
use Rattle.ns_tree.specs.declared.tree.Primary.{Primary}
use Rattle.ns_tree.specs.declared.tree.Block.{Block}
use Rattle.ns_tree.specs.declared.tree.Slot.{Slot}
use Rattle.ns_tree.specs.declared.tree.Statements.{Statements}
use Rattle.ns_tree.specs.declared.tree.Class.{Class}
use Rattle.ns_tree.specs.declared.tree.Side.{Side}
use Rattle.ns_tree.specs.lemmas.Rows.{opers_items, keys_items, cascade_items, exprs_items, slots_items, statements_items, members_items}

-- ---- structs

-- An expression's tree is that of its setters, its first message and its cascade.
pub full_expr_out : (e : FullExpr) →
    full_expr_of e ≡ p.expr_with (m.out-FullExpr e).sets.items (key_expr_of (m.out-FullExpr e).first) (cascade_of (m.out-FullExpr e).more.items)
full_expr_out (b.struct-FullExpr sets first shape row) = search (rules, m.the_lemmas, cascade_items)

pub key_expr_out : (e : KeyExpr) → key_expr_of e ≡ received (m.out-KeyExpr e).receiver (keys_of (m.out-KeyExpr e).keys.items)
key_expr_out (b.struct-KeyExpr b.KeyExpr-receiver-None' shape row) = search (rules, m.the_lemmas, keys_items)
key_expr_out (b.struct-KeyExpr (b.KeyExpr-receiver-Some' first more_shape more) shape row) = search (rules, m.the_lemmas, opers_items, keys_items)

-- A block's tree is that of its parameters, its slots and its statements.
pub block_out : (e : Block) → block_of e ≡ p.block_with (m.out-Block e).params.items (bars_of (m.out-Block e).slots) (statements_of (m.out-Block e).body)
block_out (b.struct-Block params b.Block-slots-None' body) = search (rules, m.the_lemmas)
block_out (b.struct-Block params (b.Block-slots-Some' shape row) body) = search (rules, m.the_lemmas, slots_items)

-- The tree of statements is their list, and whether a stop ends them.
pub statements_out : (e : Statements) → statements_of e ≡ p.statements_with (statement_list_of (m.out-Statements e).list.items) (m.out-Statements e).stop
statements_out (b.struct-Statements shape row stop) = search (rules, m.the_lemmas, statements_items)

-- A class's tree is that of its name and of its parts.
pub class_out : (e : Class) → class_of e ≡ p.class_with (w.out-Class e).name (option_map pattern_of (w.out-Class e).factory) (option_map clause_of (w.out-Class e).clause) (bars_of (w.out-Class e).slots) (statements_of (w.out-Class e).body) (side_of (w.out-Class e).side) (class_side_of (w.out-Class e).class_side)
class_out (c.struct-Class name factory clause slots body side c.None') = search (rules, w.the_lemmas)
class_out (c.struct-Class name factory clause slots body side (c.Some' class_side)) = search (rules, w.the_lemmas)

-- A side's tree is that of its members, with the comments behind them.
pub side_out : (e : Side) → side_of e ≡ p.side_with (members_of (w.out-Side e).members.items) (w.out-Side e).tail.items
side_out (c.struct-Side shape row tail) = search (rules, w.the_lemmas, members_items)

-- ---- options

-- A keyword message without a receiver is implicit.
pub key_expr_none : (e : KeyExpr) → (m.out-KeyExpr e).receiver ≡ None → key_expr_of e ≡ p.implicit (keys_of (m.out-KeyExpr e).keys.items)
key_expr_none e h = key_expr_out e ∙ ap (λ o. received o (keys_of (m.out-KeyExpr e).keys.items)) h

-- A keyword message with a receiver is sent to it.
pub key_expr_some : (e : KeyExpr) (r : BinExpr) → (m.out-KeyExpr e).receiver ≡ Some r → key_expr_of e ≡ p.sent (bin_of r) (keys_of (m.out-KeyExpr e).keys.items)
key_expr_some e r h = key_expr_out e ∙ ap (λ o. received o (keys_of (m.out-KeyExpr e).keys.items)) h

-- The tree of a block without slots has no bars.
pub block_none : (e : Block) → (m.out-Block e).slots ≡ None → block_of e ≡ p.block_with (m.out-Block e).params.items p.no_bars (statements_of (m.out-Block e).body)
block_none e h = block_out e ∙ ap (λ o. p.block_with (m.out-Block e).params.items (bars_of o) (statements_of (m.out-Block e).body)) h

-- The tree of a block with slots has them between bars.
pub block_some : (e : Block) (slots : Vec Slot) → (m.out-Block e).slots ≡ Some slots → block_of e ≡ p.block_with (m.out-Block e).params.items (p.bars_around (slots_of slots.items)) (statements_of (m.out-Block e).body)
block_some e slots h = block_out e ∙ ap (λ o. p.block_with (m.out-Block e).params.items (bars_of o) (statements_of (m.out-Block e).body)) h

pub class_none : (e : Class) → (w.out-Class e).class_side ≡ None → class_of e ≡ p.class_with (w.out-Class e).name (option_map pattern_of (w.out-Class e).factory) (option_map clause_of (w.out-Class e).clause) (bars_of (w.out-Class e).slots) (statements_of (w.out-Class e).body) (side_of (w.out-Class e).side) p.no_class_side
class_none e h = class_out e ∙ ap (λ o. p.class_with (w.out-Class e).name (option_map pattern_of (w.out-Class e).factory) (option_map clause_of (w.out-Class e).clause) (bars_of (w.out-Class e).slots) (statements_of (w.out-Class e).body) (side_of (w.out-Class e).side) (class_side_of o)) h

-- The tree of a class with a class side has that side.
pub class_some : (e : Class) (side : Side) → (w.out-Class e).class_side ≡ Some side → class_of e ≡ p.class_with (w.out-Class e).name (option_map pattern_of (w.out-Class e).factory) (option_map clause_of (w.out-Class e).clause) (bars_of (w.out-Class e).slots) (statements_of (w.out-Class e).body) (side_of (w.out-Class e).side) (p.class_side_with (side_of side))
class_some e side h = class_out e ∙ ap (λ o. p.class_with (w.out-Class e).name (option_map pattern_of (w.out-Class e).factory) (option_map clause_of (w.out-Class e).clause) (bars_of (w.out-Class e).slots) (statements_of (w.out-Class e).body) (side_of (w.out-Class e).side) (class_side_of o)) h

-- ---- variants that stand for a node with less

-- The tree of an operand alone has nothing around the operand.
pub operand_out : (e : Expr) (un : UnExpr) → e ≡ b.Operand un →
    expr_of e ≡ p.expr_with [] (p.sent (p.bin_with (un_of un) p.no_opers) p.no_keys) p.no_messages
operand_out e un h = ap expr_of h

-- The tree of binary messages alone has nothing around them.
pub operation_out : (e : Expr) (bin : Box BinExpr) → e ≡ m.Operation bin →
    expr_of e ≡ p.expr_with [] (p.sent (bin_of bin.value) p.no_keys) p.no_messages
operation_out e bin h = ap expr_of h ∙ search (rules, m.the_lemmas, opers_items)

-- The tree of keys alone has them without a receiver, and nothing around them.
pub implicit_out : (e : Expr) (keys : Vec (Named × BinExpr)) → e ≡ m.Implicit keys →
    expr_of e ≡ p.expr_with [] (p.implicit (keys_of keys.items)) p.no_messages
implicit_out e keys h = ap expr_of h ∙ search (rules, m.the_lemmas, keys_items)

-- The tree of a primary alone has no unary messages.
pub alone_out : (e : UnExpr) (at : ℕ) (primary : Primary) → e ≡ b.Alone at primary → un_of e ≡ p.un_with at (primary_of primary) []
alone_out e at primary h = ap un_of h

-- ---- variants that hold a vector

-- The tree of a keyword message is that of its keywords.
pub keywords_out : (e : Message) (v : Vec (Named × BinExpr)) → e ≡ m.Keys v → message_of e ≡ p.keywords (keys_of v.items)
keywords_out e v h = ap message_of h ∙ search (rules, m.the_lemmas, keys_items)

-- A tuple's tree is the list of its expressions, and whether a stop ends them.
pub tuple_out : (e : Primary) (v : Vec Expr) (stop : Bool) → e ≡ m.Tuple stop v → primary_of e ≡ p.tuple (exprs_of v.items) stop
tuple_out e v stop h = ap primary_of h ∙ search (rules, m.the_lemmas, exprs_items)

-- ---- a block that is made

pub block_made : (params : Vec Named) (slots : Option (Vec Slot)) (body : Statements) → block_of (m.roll-Block (record { params = params; slots = slots; body = body })) ≡ p.block_with params.items (bars_of slots) (statements_of body)
block_made params None body = search (rules, m.the_lemmas)
block_made params (Some slots) body = search (rules, m.the_lemmas, slots_items)
