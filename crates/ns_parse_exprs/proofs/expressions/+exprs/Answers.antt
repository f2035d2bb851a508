use Rattle.std.proofs.Common.{◌∷◌, [], map, false, refl, sym, ap, ◌∙◌, arith}
use Rattle.std.specs.Global.{Vec}
use Rattle.ns_tree.specs.declared.tree.Slot.{Slot}
use Rattle.std.proofs.lemmas.List.{map-append}
use Rattle.ns_tree.specs.Lists.{list_keys, list_opers, list_messages, list_exprs, list_slots, list_statements}
use Rattle.ns_tree.specs.Plain as p
use Rattle.ns_tree.specs.PlainOf.{expr_of, bin_of, block_of, bars_of, init_of, key_expr_of, message_of, slot_of, statement_of, opers_of, keys_of, cascade_of, slots_of, statements_of, statement_list_of, exprs_of, primary_of}
use Rattle.ns_parse_tokens.specs.Mark.{is_mark, skip, flag}
use Rattle.ns_parse_tokens.specs.Name.{is_name}
use Rattle.ns_parse_tokens.specs.Read.{got, read_or, read_until}
use Rattle.ns_parse_exprs.specs.Views.{oper_view, key_view, cascaded_view}
use Rattle.ns_parse_exprs.specs.Expressions as x
use Rattle.ns_parse_tokens.specs.declared.mark.Mark.TheVariants as mark
use Rattle.ns_parse_tokens.specs.declared.name.Sort.TheVariants as sort
use Rattle.ns_parse_tokens.specs.declared.name.Operators.TheVariants.{All, ButBar}
use Rattle.ns_parse_exprs.proofs.Lists.{lists_flag, lists_last_flag, lists_end, lists_stuck, is_some}
use Rattle.ns_parse_tokens.specs.laws.Loops.{goes_on, goes_end_mapped, goes_stuck_mapped}
use Rattle.ns_parse_exprs.proofs.Steps.{opers_same, keys_same, cascade_same, exprs_same, slots_same, statements_same, not_empty}
use Rattle.ns_parse_tokens.specs.laws.Takes.{fewer, left_by}
use Rattle.ns_parse_exprs.specs.laws.TakesPhrases.{takes_oper, takes_key, takes_cascaded, takes_expr, takes_slot, takes_statement}
use Rattle.ns_parse_tokens.specs.laws.TakesTokens.{takes_flag}
use Rattle.ns_parse_tokens.specs.Leaf.{leaf, starts_leaf}
use Rattle.ns_parse_tokens.specs.laws.Ways.{stops, gives, fails_on, reads_first, reads_second, reads_after, reads_closed}
use Rattle.ns_parse_exprs.proofs.expressions.+exprs.Goals as goal

pub any_primary-returns-then-sees_leaf : goal.any_primary-returns-then-sees_leaf
unfolding x.any_primary
any_primary-returns-then-sees_leaf t c =
    reads_first primary_of starts_leaf leaf (x.bracketed (x.primary c.args.depth)) _ _ _ (sym c.sees_leaf.ensures ∙ c.if-sees_leaf.true) c.leaf.ensures

pub any_primary-returns-else-sees_leaf : goal.any_primary-returns-else-sees_leaf
unfolding x.any_primary
any_primary-returns-else-sees_leaf t c =
    reads_second primary_of starts_leaf leaf (x.bracketed (x.primary c.args.depth)) _ _ _ (sym c.sees_leaf.ensures ∙ c.if-sees_leaf.false) c.bracketed.ensures

pub bracketed-returns-then-sees : goal.bracketed-returns-then-sees
unfolding x.bracketed
bracketed-returns-then-sees t c =
    reads_first primary_of (is_mark mark.Open) (x.paren (x.primary c.args.depth)) (read_or (is_mark mark.OpenBlock) (x.block_literal (x.primary c.args.depth)) (x.tuple (x.primary c.args.depth))) _ _ _ (sym c.sees.ensures ∙ c.if-sees.true) c.paren.ensures

pub bracketed-returns-then-sees-2 : goal.bracketed-returns-then-sees-2
unfolding x.bracketed
bracketed-returns-then-sees-2 t c =
    reads_second primary_of (is_mark mark.Open) (x.paren (x.primary c.args.depth)) (read_or (is_mark mark.OpenBlock) (x.block_literal (x.primary c.args.depth)) (x.tuple (x.primary c.args.depth))) _ _ _ (sym c.sees.ensures ∙ c.if-sees.false) (reads_first primary_of (is_mark mark.OpenBlock) (x.block_literal (x.primary c.args.depth)) (x.tuple (x.primary c.args.depth)) _ _ _ (sym c.sees-else-sees.ensures ∙ c.if-sees-2.true) c.block_literal.ensures)

pub bracketed-returns-else-sees-2 : goal.bracketed-returns-else-sees-2
unfolding x.bracketed
bracketed-returns-else-sees-2 t c =
    reads_second primary_of (is_mark mark.Open) (x.paren (x.primary c.args.depth)) (read_or (is_mark mark.OpenBlock) (x.block_literal (x.primary c.args.depth)) (x.tuple (x.primary c.args.depth))) _ _ _ (sym c.sees.ensures ∙ c.if-sees.false) (reads_second primary_of (is_mark mark.OpenBlock) (x.block_literal (x.primary c.args.depth)) (x.tuple (x.primary c.args.depth)) _ _ _ (sym c.sees-else-sees.ensures ∙ c.if-sees-2.false) c.tuple.ensures)

pub tuple-returns : goal.tuple-returns
tuple-returns t c =
    reads_after primary_of (skip mark.OpenTuple) (read_until (x.tuple_items (x.primary c.args.depth)) (skip mark.CloseTuple)) tt _ _ _ _ c.in_ok-skip.ensures (reads_closed primary_of (x.tuple_items (x.primary c.args.depth)) (skip mark.CloseTuple) tt _ _ _ _ _ c.in_ok-items.ensures c.closed.ensures.read c.closed.ensures.kept)

pub value-returns : goal.value-returns
value-returns t c =
    reads_closed expr_of (x.expr (x.primary c.args.depth) ButBar) (skip mark.Stop) tt _ _ _ _ _ c.in_ok-value.ensures c.closed.ensures.read c.closed.ensures.kept

pub oper-returns : goal.oper-returns
oper-returns t c =
    rw (c.in_ok-operator.ensures, c.in_ok-argument.ensures) refl

pub key-returns : goal.key-returns
key-returns t c =
    rw (c.in_ok-part.ensures, c.in_ok-argument.ensures) refl

pub cascaded-returns : goal.cascaded-returns
cascaded-returns t c =
    rw (c.in_ok-at.ensures, c.in_ok-message.ensures) refl

pub bin-returns-in-Err : goal.bin-returns-in-Err
unfolding x.bin
bin-returns-in-Err t c =
    rw c.in_ok-first.ensures (stops _ _ _ (stops _ _ _ c.in-Err.ensures))

pub expr-returns-in-Err : goal.expr-returns-in-Err
unfolding x.expr
expr-returns-in-Err t c =
    rw (c.in_ok-sets.ensures, c.in_ok-first.ensures) (stops _ _ _ (stops _ _ _ (stops _ _ _ c.in-Err.ensures)))

pub key_expr-returns-in-Err : goal.key_expr-returns-in-Err
unfolding x.key_expr
key_expr-returns-in-Err t c =
    rw ((sym c.sees_un.ensures ∙ c.if-sees_un.true), c.in_ok-receiver.ensures) (stops _ _ _ (stops _ _ _ c.in-Err.ensures))

pub paren-returns-in_err-skip : goal.paren-returns-in_err-skip
paren-returns-in_err-skip t c =
    fails_on primary_of (x.paren (x.primary c.args.depth)) _ c.in_err-skip.field-0.0 c.args.tokens.now _ c.from_residual.ensures ((stops _ _ _ (stops _ _ _ c.in_err-skip.ensures)))

pub paren-returns-in_err-inner : goal.paren-returns-in_err-inner
paren-returns-in_err-inner t c =
    fails_on primary_of (x.paren (x.primary c.args.depth)) _ c.in_err-inner.field-0.0 c.args.tokens.now _ c.from_residual-in_err-inner.ensures (rw c.in_ok-skip.ensures (stops _ _ _ (stops _ _ _ c.in_err-inner.ensures)))

pub paren-returns-in_err-inner-2 : goal.paren-returns-in_err-inner-2
paren-returns-in_err-inner-2 t c =
    fails_on primary_of (x.paren (x.primary c.args.depth)) _ c.in_err-inner-2.field-0.0 c.args.tokens.now _ c.from_residual-in_err-inner-2.ensures (rw (c.in_ok-skip.ensures, c.in_ok-inner.ensures) (stops _ _ _ (stops _ _ _ c.in_err-inner-2.ensures.read)))

pub block_literal-returns-in_err-skip : goal.block_literal-returns-in_err-skip
block_literal-returns-in_err-skip t c =
    fails_on primary_of (x.block_literal (x.primary c.args.depth)) _ c.in_err-skip.field-0.0 c.args.tokens.now _ c.from_residual.ensures ((stops _ _ _ (stops _ _ _ c.in_err-skip.ensures)))

pub block_literal-returns-in_err-block : goal.block_literal-returns-in_err-block
block_literal-returns-in_err-block t c =
    fails_on primary_of (x.block_literal (x.primary c.args.depth)) _ c.in_err-block.field-0.0 c.args.tokens.now _ c.from_residual-in_err-block.ensures (rw c.in_ok-skip.ensures (stops _ _ _ (stops _ _ _ c.in_err-block.ensures)))

pub block_literal-returns-in_err-block-2 : goal.block_literal-returns-in_err-block-2
block_literal-returns-in_err-block-2 t c =
    fails_on primary_of (x.block_literal (x.primary c.args.depth)) _ c.in_err-block-2.field-0.0 c.args.tokens.now _ c.from_residual-in_err-block-2.ensures (rw (c.in_ok-skip.ensures, c.in_ok-block.ensures) (stops _ _ _ (stops _ _ _ c.in_err-block-2.ensures.read)))

pub tuple-returns-in_err-skip : goal.tuple-returns-in_err-skip
tuple-returns-in_err-skip t c =
    fails_on primary_of (x.tuple (x.primary c.args.depth)) _ c.in_err-skip.field-0.0 c.args.tokens.now _ c.from_residual.ensures ((stops _ _ _ c.in_err-skip.ensures))

pub tuple-returns-in_err-items : goal.tuple-returns-in_err-items
tuple-returns-in_err-items t c =
    fails_on primary_of (x.tuple (x.primary c.args.depth)) _ c.in_err-items.field-0.0 c.args.tokens.now _ c.from_residual-in_err-items.ensures (rw c.in_ok-skip.ensures (stops _ _ _ c.in_err-items.ensures))

pub value-returns-in_err-value : goal.value-returns-in_err-value
value-returns-in_err-value t c =
    fails_on expr_of (x.value (x.primary c.args.depth)) _ c.in_err-value.field-0.0 c.args.tokens.now _ c.from_residual.ensures ((stops _ _ _ c.in_err-value.ensures))

pub oper-returns-in_err-operator : goal.oper-returns-in_err-operator
oper-returns-in_err-operator t c =
    fails_on oper_view (x.oper (x.primary c.args.depth) c.args.operators) _ c.in_err-operator.field-0.0 c.args.tokens.now _ c.from_residual.ensures ((stops _ _ _ c.in_err-operator.ensures))

pub oper-returns-in_err-argument : goal.oper-returns-in_err-argument
oper-returns-in_err-argument t c =
    fails_on oper_view (x.oper (x.primary c.args.depth) c.args.operators) _ c.in_err-argument.field-0.0 c.args.tokens.now _ c.from_residual-in_err-argument.ensures (rw c.in_ok-operator.ensures (stops _ _ _ c.in_err-argument.ensures))

pub key-returns-in_err-part : goal.key-returns-in_err-part
key-returns-in_err-part t c =
    fails_on key_view (x.key (x.primary c.args.depth) c.args.operators) _ c.in_err-part.field-0.0 c.args.tokens.now _ c.from_residual.ensures ((stops _ _ _ c.in_err-part.ensures))

pub key-returns-in_err-argument : goal.key-returns-in_err-argument
key-returns-in_err-argument t c =
    fails_on key_view (x.key (x.primary c.args.depth) c.args.operators) _ c.in_err-argument.field-0.0 c.args.tokens.now _ c.from_residual-in_err-argument.ensures (rw c.in_ok-part.ensures (stops _ _ _ c.in_err-argument.ensures))

pub cascaded-returns-in_err-at : goal.cascaded-returns-in_err-at
cascaded-returns-in_err-at t c =
    fails_on cascaded_view (x.cascaded (x.primary c.args.depth) c.args.operators) _ c.in_err-at.field-0.0 c.args.tokens.now _ c.from_residual.ensures ((stops _ _ _ c.in_err-at.ensures))

pub cascaded-returns-in_err-message : goal.cascaded-returns-in_err-message
cascaded-returns-in_err-message t c =
    fails_on cascaded_view (x.cascaded (x.primary c.args.depth) c.args.operators) _ c.in_err-message.field-0.0 c.args.tokens.now _ c.from_residual-in_err-message.ensures (rw c.in_ok-at.ensures (stops _ _ _ c.in_err-message.ensures))

pub bin-returns-in_err-first : goal.bin-returns-in_err-first
unfolding x.bin
bin-returns-in_err-first t c =
    fails_on bin_of (x.bin (x.primary c.args.depth) c.args.operators) _ c.in_err-first.field-0.0 c.args.tokens.now _ c.from_residual.ensures ((stops _ _ _ (stops _ _ _ c.in_err-first.ensures)))

pub bin-returns-in-Ok : goal.bin-returns-in-Ok
unfolding x.bin
bin-returns-in-Ok t c =
    rw (c.in_ok-first.ensures, c.in-Ok.ensures) (gives (sym c.bin.ensures))

pub expr-returns-in_err-sets : goal.expr-returns-in_err-sets
unfolding x.expr
expr-returns-in_err-sets t c =
    fails_on expr_of (x.expr (x.primary c.args.depth) c.args.operators) _ c.in_err-sets.field-0.0 c.args.tokens.now _ c.from_residual.ensures ((stops _ _ _ (stops _ _ _ c.in_err-sets.ensures)))

pub expr-returns-in_err-first : goal.expr-returns-in_err-first
unfolding x.expr
expr-returns-in_err-first t c =
    fails_on expr_of (x.expr (x.primary c.args.depth) c.args.operators) _ c.in_err-first.field-0.0 c.args.tokens.now _ c.from_residual-in_err-first.ensures (rw c.in_ok-sets.ensures (stops _ _ _ (stops _ _ _ (stops _ _ _ c.in_err-first.ensures))))

pub expr-returns-in_ok-expr-in-Ok : goal.expr-returns-in_ok-expr-in-Ok
unfolding x.expr
expr-returns-in_ok-expr-in-Ok t c =
    rw (c.in_ok-sets.ensures, c.in_ok-first.ensures, c.in-Ok.ensures) (gives (sym c.in_ok-expr-in-Ok.ensures))

pub key_expr-returns-in_err-receiver : goal.key_expr-returns-in_err-receiver
unfolding x.key_expr
key_expr-returns-in_err-receiver t c =
    fails_on key_expr_of (x.key_expr (x.primary c.args.depth) c.args.operators) _ c.in_err-receiver.field-0.0 c.args.tokens.now _ c.from_residual.ensures (rw (sym c.sees_un.ensures ∙ c.if-sees_un.true) (stops _ _ _ (stops _ _ _ c.in_err-receiver.ensures)))

pub key_expr-returns-in-Ok : goal.key_expr-returns-in-Ok
unfolding x.key_expr
key_expr-returns-in-Ok t c =
    rw ((sym c.sees_un.ensures ∙ c.if-sees_un.true), c.in_ok-receiver.ensures, c.in-Ok.ensures) (gives (sym c.sent.ensures))

pub key_expr-returns-in_err-keys : goal.key_expr-returns-in_err-keys
unfolding x.key_expr
key_expr-returns-in_err-keys t c =
    fails_on key_expr_of (x.key_expr (x.primary c.args.depth) c.args.operators) _ c.in_err-keys.field-0.0 c.args.tokens.now _ c.from_residual-in_err-keys.ensures (rw ((sym c.sees_un.ensures ∙ c.if-sees_un.false), (sym c.sees_name.ensures ∙ c.if-sees_name.true)) (stops _ _ _ c.in_err-keys.ensures))

pub key_expr-returns-in_ok-keys : goal.key_expr-returns-in_ok-keys
unfolding x.key_expr
key_expr-returns-in_ok-keys t c =
    rw ((sym c.sees_un.ensures ∙ c.if-sees_un.false), (sym c.sees_name.ensures ∙ c.if-sees_name.true), c.in_ok-keys.ensures) (gives (sym c.implicit.ensures))

pub message-returns-in_err-name : goal.message-returns-in_err-name
unfolding x.message
message-returns-in_err-name t c =
    fails_on message_of (x.message (x.primary c.args.depth) c.args.operators) _ c.in_err-name.field-0.0 c.args.tokens.now _ c.from_residual.ensures (rw (sym c.sees_name.ensures ∙ c.if-sees_name.true) (stops _ _ _ c.in_err-name.ensures))

pub message-returns-in_err-item : goal.message-returns-in_err-item
unfolding x.message
message-returns-in_err-item t c =
    fails_on message_of (x.message (x.primary c.args.depth) c.args.operators) _ c.in_err-item.field-0.0 c.args.tokens.now _ c.from_residual-in_err-item.ensures (rw ((sym c.sees_name.ensures ∙ c.if-sees_name.false), (sym c.sees_name-else-sees_name.ensures ∙ c.if-sees_name-2.true)) (stops _ _ _ c.in_err-item.ensures))

pub message-returns-in_ok-binary : goal.message-returns-in_ok-binary
unfolding x.message
message-returns-in_ok-binary t c =
    rw ((sym c.sees_name.ensures ∙ c.if-sees_name.false), (sym c.sees_name-else-sees_name.ensures ∙ c.if-sees_name-2.true), c.in_ok-item.ensures) (gives (sym c.in_ok-binary.ensures))

pub message-returns-in_err-keys : goal.message-returns-in_err-keys
unfolding x.message
message-returns-in_err-keys t c =
    fails_on message_of (x.message (x.primary c.args.depth) c.args.operators) _ c.in_err-keys.field-0.0 c.args.tokens.now _ c.from_residual-in_err-keys.ensures (rw ((sym c.sees_name.ensures ∙ c.if-sees_name.false), (sym c.sees_name-else-sees_name.ensures ∙ c.if-sees_name-2.false), (sym c.sees_name-else-sees_name-2.ensures ∙ c.if-sees_name-3.true)) (stops _ _ _ c.in_err-keys.ensures))

pub message-returns-in_ok-keys : goal.message-returns-in_ok-keys
unfolding x.message
message-returns-in_ok-keys t c =
    rw ((sym c.sees_name.ensures ∙ c.if-sees_name.false), (sym c.sees_name-else-sees_name.ensures ∙ c.if-sees_name-2.false), (sym c.sees_name-else-sees_name-2.ensures ∙ c.if-sees_name-3.true), c.in_ok-keys.ensures) (gives (sym c.keywords.ensures))

pub init-returns-in_err-skip : goal.init-returns-in_err-skip
unfolding x.init
init-returns-in_err-skip t c =
    fails_on init_of (x.init (x.primary c.args.depth)) _ c.in_err-skip.field-0.0 c.args.tokens.now _ c.from_residual.ensures (rw (sym c.sees.ensures ∙ c.if-sees.true) (stops _ _ _ (stops _ _ _ c.in_err-skip.ensures)))

pub init-returns-in_err-value : goal.init-returns-in_err-value
unfolding x.init
init-returns-in_err-value t c =
    fails_on init_of (x.init (x.primary c.args.depth)) _ c.in_err-value.field-0.0 c.args.tokens.now _ c.from_residual-in_err-value.ensures (rw ((sym c.sees.ensures ∙ c.if-sees.true), c.in_ok-skip.ensures) (stops _ _ _ c.in_err-value.ensures))

pub init-returns-in_ok-fixed : goal.init-returns-in_ok-fixed
unfolding x.init
init-returns-in_ok-fixed t c =
    rw ((sym c.sees.ensures ∙ c.if-sees.true), c.in_ok-skip.ensures, c.in_ok-value.ensures) (gives (sym c.in_ok-fixed.ensures))

pub init-returns-in_err-skip-2 : goal.init-returns-in_err-skip-2
unfolding x.init
init-returns-in_err-skip-2 t c =
    fails_on init_of (x.init (x.primary c.args.depth)) _ c.in_err-skip-2.field-0.0 c.args.tokens.now _ c.from_residual-in_err-skip-2.ensures (rw ((sym c.sees.ensures ∙ c.if-sees.false), (sym c.sees-else-sees.ensures ∙ c.if-sees-2.true)) (stops _ _ _ (stops _ _ _ c.in_err-skip-2.ensures)))

pub init-returns-in_err-value-2 : goal.init-returns-in_err-value-2
unfolding x.init
init-returns-in_err-value-2 t c =
    fails_on init_of (x.init (x.primary c.args.depth)) _ c.in_err-value-2.field-0.0 c.args.tokens.now _ c.from_residual-in_err-value-2.ensures (rw ((sym c.sees.ensures ∙ c.if-sees.false), (sym c.sees-else-sees.ensures ∙ c.if-sees-2.true), c.in_ok-skip-2.ensures) (stops _ _ _ c.in_err-value-2.ensures))

pub init-returns-in_ok-mutable : goal.init-returns-in_ok-mutable
unfolding x.init
init-returns-in_ok-mutable t c =
    rw ((sym c.sees.ensures ∙ c.if-sees.false), (sym c.sees-else-sees.ensures ∙ c.if-sees-2.true), c.in_ok-skip-2.ensures, c.in_ok-value-2.ensures) (gives (sym c.in_ok-mutable.ensures))

pub slot-returns-in_err-name : goal.slot-returns-in_err-name
unfolding x.slot
slot-returns-in_err-name t c =
    fails_on slot_of (x.slot (x.primary c.args.depth) c.args.holder) _ c.in_err-name.field-0.0 c.args.tokens.now _ c.from_residual.ensures (rw c.slot_access-access.ensures (stops _ _ _ (stops _ _ _ (stops _ _ _ c.in_err-name.ensures))))

pub slot-returns-in_err-init : goal.slot-returns-in_err-init
unfolding x.slot
slot-returns-in_err-init t c =
    fails_on slot_of (x.slot (x.primary c.args.depth) c.args.holder) _ c.in_err-init.field-0.0 c.args.tokens.now _ c.from_residual-in_err-init.ensures (rw (c.slot_access-access.ensures, c.in_ok-name.ensures) (stops _ _ _ (stops _ _ _ (stops _ _ _ c.in_err-init.ensures))))

pub slot-returns : goal.slot-returns
unfolding x.slot
slot-returns t c =
    rw (c.slot_access-access.ensures, c.in_ok-name.ensures, c.in_ok-init.ensures) (gives (sym c.slot.ensures))

pub bars-returns-in_err-skip : goal.bars-returns-in_err-skip
unfolding x.bars
bars-returns-in_err-skip t c =
    fails_on bars_of (x.bars (x.primary c.args.depth) c.args.holder) _ c.in_err-skip.field-0.0 c.args.tokens.now _ c.from_residual.ensures (rw (sym c.sees.ensures ∙ c.if-sees.true) (stops _ _ _ (stops _ _ _ c.in_err-skip.ensures)))

pub bars-returns-in_err-slots : goal.bars-returns-in_err-slots
unfolding x.bars
bars-returns-in_err-slots t c =
    fails_on bars_of (x.bars (x.primary c.args.depth) c.args.holder) _ c.in_err-slots.field-0.0 c.args.tokens.now _ c.from_residual-in_err-slots.ensures (rw ((sym c.sees.ensures ∙ c.if-sees.true), c.in_ok-skip.ensures) (stops _ _ _ (stops _ _ _ c.in_err-slots.ensures)))

pub bars-returns-in_err-slots-2 : goal.bars-returns-in_err-slots-2
unfolding x.bars
bars-returns-in_err-slots-2 t c =
    fails_on bars_of (x.bars (x.primary c.args.depth) c.args.holder) _ c.in_err-slots-2.field-0.0 c.args.tokens.now _ c.from_residual-in_err-slots-2.ensures (rw ((sym c.sees.ensures ∙ c.if-sees.true), c.in_ok-skip.ensures, c.in_ok-slots.ensures) (stops _ _ _ (stops _ _ _ c.in_err-slots-2.ensures.read)))

pub bars-returns-in_ok-slots-2 : goal.bars-returns-in_ok-slots-2
unfolding x.bars
bars-returns-in_ok-slots-2 t c =
    rw ((sym c.sees.ensures ∙ c.if-sees.true), c.in_ok-skip.ensures, c.in_ok-slots.ensures, c.in_ok-slots-2.ensures.read) (gives (ap (λ (v : Vec Slot). p.bars_around (slots_of v.items)) (sym c.in_ok-slots-2.ensures.kept)))

pub statement-returns-in_err-expr : goal.statement-returns-in_err-expr
unfolding x.statement
statement-returns-in_err-expr t c =
    fails_on statement_of (x.statement (x.primary c.args.depth)) _ c.in_err-expr.field-0.0 c.args.tokens.now _ c.from_residual.ensures (rw c.place_if-caret.ensures (stops _ _ _ (stops _ _ _ c.in_err-expr.ensures)))

pub statement-returns : goal.statement-returns
unfolding x.statement
statement-returns t c =
    rw (c.place_if-caret.ensures, c.in_ok-expr.ensures) (gives (sym c.statement.ensures))

pub block-returns-in_err-params : goal.block-returns-in_err-params
unfolding x.block
block-returns-in_err-params t c =
    fails_on block_of (x.block (x.primary c.args.depth)) _ c.in_err-params.field-0.0 c.args.tokens.now _ c.from_residual.ensures ((stops _ _ _ (stops _ _ _ c.in_err-params.ensures)))

pub block-returns-in_err-slots : goal.block-returns-in_err-slots
unfolding x.block
block-returns-in_err-slots t c =
    fails_on block_of (x.block (x.primary c.args.depth)) _ c.in_err-slots.field-0.0 c.args.tokens.now _ c.from_residual-in_err-slots.ensures (rw c.in_ok-params.ensures (stops _ _ _ (stops _ _ _ (stops _ _ _ c.in_err-slots.ensures))))

pub block-returns-in_err-body : goal.block-returns-in_err-body
unfolding x.block
block-returns-in_err-body t c =
    fails_on block_of (x.block (x.primary c.args.depth)) _ c.in_err-body.field-0.0 c.args.tokens.now _ c.from_residual-in_err-body.ensures (rw (c.in_ok-params.ensures, c.in_ok-slots.ensures) (stops _ _ _ (stops _ _ _ (stops _ _ _ c.in_err-body.ensures))))

pub block-returns : goal.block-returns
unfolding x.block
block-returns t c =
    rw (c.in_ok-params.ensures, c.in_ok-slots.ensures, c.in_ok-body.ensures) (gives (sym c.block.ensures))

pub opers-returns-in_err-item : goal.opers-returns-in_err-item
opers-returns-in_err-item t c =
    fails_on (λ opers. opers_of opers.items) (x.opers (x.primary c.args.depth) c.args.operators) _ c.in_err-item.field-0.0 c.args.tokens.now _ c.from_residual.ensures (goes_stuck_mapped (is_name (sort.Operator c.args.operators)) (x.oper (x.primary c.args.depth) c.args.operators) list_opers (map oper_view c.items.items.items) c.items.tokens _ _ c.items.invariant (sym c.sees_name.ensures ∙ c.items-test.true) c.in_err-item.ensures)

pub keys-returns-in_err-item : goal.keys-returns-in_err-item
keys-returns-in_err-item t c =
    fails_on (λ keys. keys_of keys.items) (x.keys (x.primary c.args.depth) c.args.operators) _ c.in_err-item.field-0.0 c.args.tokens.now _ c.from_residual.ensures (goes_stuck_mapped (is_name sort.Key) (x.key (x.primary c.args.depth) c.args.operators) list_keys (map key_view c.items.items.items) c.items.tokens _ _ c.items.invariant (sym c.sees_name.ensures ∙ c.items-test.true) c.in_err-item.ensures)

pub cascade-returns-in_err-item : goal.cascade-returns-in_err-item
cascade-returns-in_err-item t c =
    fails_on (λ messages. cascade_of messages.items) (x.cascade (x.primary c.args.depth) c.args.operators) _ c.in_err-item.field-0.0 c.args.tokens.now _ c.from_residual.ensures (goes_stuck_mapped (is_mark mark.Semi) (x.cascaded (x.primary c.args.depth) c.args.operators) list_messages (map cascaded_view c.items.items.items) c.items.tokens _ _ c.items.invariant (sym c.sees.ensures ∙ c.items-test.true) c.in_err-item.ensures)

pub slots-returns-in_err-item : goal.slots-returns-in_err-item
slots-returns-in_err-item t c =
    fails_on (λ slots. slots_of slots.items) (x.slots (x.primary c.args.depth) c.args.holder) _ c.in_err-item.field-0.0 c.args.tokens.now _ c.from_residual.ensures (goes_stuck_mapped (x.starts_slot c.args.holder) (x.slot (x.primary c.args.depth) c.args.holder) list_slots (map slot_of c.items.items.items) c.items.tokens _ _ c.items.invariant (sym c.sees_slot.ensures ∙ c.items-test.true) c.in_err-item.ensures)

pub statements-returns-in_err-item : goal.statements-returns-in_err-item
statements-returns-in_err-item t c =
    fails_on statements_of (x.statements (x.primary c.args.depth)) _ c.in_err-item.field-0.0 c.args.tokens.now _ c.from_residual.ensures (lists_stuck x.starts_statement mark.Stop (x.statement (x.primary c.args.depth)) (λ xs stop. p.statements_with (list_statements xs) stop) (map statement_of c.items.items.items) c.items.tokens _ _ c.items.invariant (sym c.sees_statement.ensures ∙ c.items-test.true) c.in_err-item.ensures)

pub tuple_items-returns-in_err-item : goal.tuple_items-returns-in_err-item
tuple_items-returns-in_err-item t c =
    fails_on primary_of (x.tuple_items (x.primary c.args.depth)) _ c.in_err-item.field-0.0 c.args.tokens.now _ c.from_residual.ensures (lists_stuck x.starts_expr mark.Stop (x.expr (x.primary c.args.depth) All) (λ xs stop. p.tuple (list_exprs xs) stop) (map expr_of c.items.items.items) c.items.tokens _ _ c.items.invariant (sym c.sees_expr.ensures ∙ c.items-test.true) c.in_err-item.ensures)

pub opers-items-preserved : goal.opers-items-preserved
opers-items-preserved t c =
    goes_on (is_name (sort.Operator c.args.operators)) (x.oper (x.primary c.args.depth) c.args.operators) (map oper_view c.items.items.items) (map oper_view c.push.new.self.items) c.items.tokens _ (oper_view c.in_ok-item.item) c.oper.new.tokens (takes_oper c.args.depth c.args.operators)
    c.items.invariant (sym c.sees_name.ensures ∙ c.items-test.true) c.in_ok-item.ensures (ap (map oper_view) c.in_ok-push.ensures.items ∙ map-append oper_view c.items.items.items (c.in_ok-item.item ∷ []))

pub opers-items-smaller : goal.opers-items-smaller
opers-items-smaller t c = fewer (x.oper (x.primary c.args.depth) c.args.operators) c.items.tokens c.oper.new.tokens (oper_view c.in_ok-item.item) (takes_oper c.args.depth c.args.operators) c.in_ok-item.ensures

pub opers-returns : goal.opers-returns
opers-returns t c = goes_end_mapped (is_name (sort.Operator c.args.operators)) (x.oper (x.primary c.args.depth) c.args.operators) list_opers (map oper_view c.items.items.items) (opers_of c.items.items.items) c.items.tokens _ c.items.invariant (sym c.sees_name.ensures ∙ c.items-test.false) (opers_same c.items.items.items)

pub keys-items-preserved : goal.keys-items-preserved
keys-items-preserved t c =
    goes_on (is_name sort.Key) (x.key (x.primary c.args.depth) c.args.operators) (map key_view c.items.items.items) (map key_view c.push.new.self.items) c.items.tokens _ (key_view c.in_ok-item.item) c.key.new.tokens (takes_key c.args.depth c.args.operators)
    c.items.invariant (sym c.sees_name.ensures ∙ c.items-test.true) c.in_ok-item.ensures (ap (map key_view) c.in_ok-push.ensures.items ∙ map-append key_view c.items.items.items (c.in_ok-item.item ∷ []))

pub keys-items-smaller : goal.keys-items-smaller
keys-items-smaller t c = fewer (x.key (x.primary c.args.depth) c.args.operators) c.items.tokens c.key.new.tokens (key_view c.in_ok-item.item) (takes_key c.args.depth c.args.operators) c.in_ok-item.ensures

pub keys-returns : goal.keys-returns
keys-returns t c = goes_end_mapped (is_name sort.Key) (x.key (x.primary c.args.depth) c.args.operators) list_keys (map key_view c.items.items.items) (keys_of c.items.items.items) c.items.tokens _ c.items.invariant (sym c.sees_name.ensures ∙ c.items-test.false) (keys_same c.items.items.items)

pub cascade-items-preserved : goal.cascade-items-preserved
cascade-items-preserved t c =
    goes_on (is_mark mark.Semi) (x.cascaded (x.primary c.args.depth) c.args.operators) (map cascaded_view c.items.items.items) (map cascaded_view c.push.new.self.items) c.items.tokens _ (cascaded_view c.in_ok-item.item) c.cascaded.new.tokens (takes_cascaded c.args.depth c.args.operators)
    c.items.invariant (sym c.sees.ensures ∙ c.items-test.true) c.in_ok-item.ensures (ap (map cascaded_view) c.in_ok-push.ensures.items ∙ map-append cascaded_view c.items.items.items (c.in_ok-item.item ∷ []))

pub cascade-items-smaller : goal.cascade-items-smaller
cascade-items-smaller t c = fewer (x.cascaded (x.primary c.args.depth) c.args.operators) c.items.tokens c.cascaded.new.tokens (cascaded_view c.in_ok-item.item) (takes_cascaded c.args.depth c.args.operators) c.in_ok-item.ensures

pub cascade-returns : goal.cascade-returns
cascade-returns t c = goes_end_mapped (is_mark mark.Semi) (x.cascaded (x.primary c.args.depth) c.args.operators) list_messages (map cascaded_view c.items.items.items) (cascade_of c.items.items.items) c.items.tokens _ c.items.invariant (sym c.sees.ensures ∙ c.items-test.false) (cascade_same c.items.items.items)

pub slots-items-preserved : goal.slots-items-preserved
slots-items-preserved t c =
    goes_on (x.starts_slot c.args.holder) (x.slot (x.primary c.args.depth) c.args.holder) (map slot_of c.items.items.items) (map slot_of c.push.new.self.items) c.items.tokens _ (slot_of c.in_ok-item.item) c.slot.new.tokens (takes_slot c.args.depth c.args.holder)
    c.items.invariant (sym c.sees_slot.ensures ∙ c.items-test.true) c.in_ok-item.ensures (ap (map slot_of) c.in_ok-push.ensures.items ∙ map-append slot_of c.items.items.items (c.in_ok-item.item ∷ []))

pub slots-items-smaller : goal.slots-items-smaller
slots-items-smaller t c = fewer (x.slot (x.primary c.args.depth) c.args.holder) c.items.tokens c.slot.new.tokens (slot_of c.in_ok-item.item) (takes_slot c.args.depth c.args.holder) c.in_ok-item.ensures

pub slots-returns : goal.slots-returns
slots-returns t c = goes_end_mapped (x.starts_slot c.args.holder) (x.slot (x.primary c.args.depth) c.args.holder) list_slots (map slot_of c.items.items.items) (slots_of c.items.items.items) c.items.tokens _ c.items.invariant (sym c.sees_slot.ensures ∙ c.items-test.false) (slots_same c.items.items.items)

pub statements-items-preserved : goal.statements-items-preserved
statements-items-preserved t c =
    lists_flag x.starts_statement mark.Stop (x.statement (x.primary c.args.depth)) (map statement_of c.items.items.items) (map statement_of c.push.new.self.items) c.items.tokens _ (statement_of c.in_ok-item.item) c.statement.new.tokens c.skip_if.new.tokens (takes_statement c.args.depth)
    c.items.invariant (sym c.sees_statement.ensures ∙ c.items-test.true) c.in_ok-item.ensures (c.skip_if.ensures ∙ ap (λ v. got v c.skip_if.new.tokens.at c.skip_if.new.tokens.kinds) c.if-not-skip_if.false) (ap (map statement_of) c.in_ok-push.ensures.items ∙ map-append statement_of c.items.items.items (c.in_ok-item.item ∷ []))

pub statements-items-smaller : goal.statements-items-smaller
statements-items-smaller t c =
    omega (arith, fewer (x.statement (x.primary c.args.depth)) c.items.tokens c.statement.new.tokens (statement_of c.in_ok-item.item) (takes_statement c.args.depth) c.in_ok-item.ensures, left_by 0 (flag mark.Stop) c.statement.new.tokens.at c.statement.new.tokens.kinds _ c.skip_if.new.tokens.at c.skip_if.new.tokens.kinds (takes_flag mark.Stop) c.skip_if.ensures)

pub statements-returns-then-not-skip_if : goal.statements-returns-then-not-skip_if
statements-returns-then-not-skip_if t c =
    lists_last_flag x.starts_statement mark.Stop (x.statement (x.primary c.args.depth)) (λ xs stop. p.statements_with (list_statements xs) stop) (map statement_of c.items.items.items) c.items.tokens _ (statement_of c.in_ok-item.item) c.statement.new.tokens c.skip_if.new.tokens (map statement_of c.push.new.self.items) (statements_of c.statements.result)
    c.items.invariant (sym c.sees_statement.ensures ∙ c.items-test.true) c.in_ok-item.ensures (c.skip_if.ensures ∙ ap (λ v. got v c.skip_if.new.tokens.at c.skip_if.new.tokens.kinds) c.if-not-skip_if.true) (ap (map statement_of) c.in_ok-push.ensures.items ∙ map-append statement_of c.items.items.items (c.in_ok-item.item ∷ [])) (c.statements.ensures ∙ ap (λ l. p.statements_with l false) (statements_same c.push.new.self.items))

pub statements-returns : goal.statements-returns
statements-returns t c =
    lists_end x.starts_statement mark.Stop (x.statement (x.primary c.args.depth)) (λ xs stop. p.statements_with (list_statements xs) stop) (map statement_of c.items.items.items) c.items.tokens _ (statements_of c.statements-2.result)
    c.items.invariant (sym c.sees_statement.ensures ∙ c.items-test.false) (c.statements-2.ensures ∙ ap (p.statements_with (statement_list_of c.items.items.items)) (not_empty statement_of c.items.items c.is_empty-stop.result c.is_empty-stop.ensures) ∙ ap (λ l. p.statements_with l (is_some (map statement_of c.items.items.items))) (statements_same c.items.items.items))

pub tuple_items-items-preserved : goal.tuple_items-items-preserved
tuple_items-items-preserved t c =
    lists_flag x.starts_expr mark.Stop (x.expr (x.primary c.args.depth) All) (map expr_of c.items.items.items) (map expr_of c.push.new.self.items) c.items.tokens _ (expr_of c.in_ok-item.item) c.expr.new.tokens c.skip_if.new.tokens (takes_expr c.args.depth All)
    c.items.invariant (sym c.sees_expr.ensures ∙ c.items-test.true) c.in_ok-item.ensures (c.skip_if.ensures ∙ ap (λ v. got v c.skip_if.new.tokens.at c.skip_if.new.tokens.kinds) c.if-not-skip_if.false) (ap (map expr_of) c.in_ok-push.ensures.items ∙ map-append expr_of c.items.items.items (c.in_ok-item.item ∷ []))

pub tuple_items-items-smaller : goal.tuple_items-items-smaller
tuple_items-items-smaller t c =
    omega (arith, fewer (x.expr (x.primary c.args.depth) All) c.items.tokens c.expr.new.tokens (expr_of c.in_ok-item.item) (takes_expr c.args.depth All) c.in_ok-item.ensures, left_by 0 (flag mark.Stop) c.expr.new.tokens.at c.expr.new.tokens.kinds _ c.skip_if.new.tokens.at c.skip_if.new.tokens.kinds (takes_flag mark.Stop) c.skip_if.ensures)

pub tuple_items-returns-then-not-skip_if : goal.tuple_items-returns-then-not-skip_if
tuple_items-returns-then-not-skip_if t c =
    lists_last_flag x.starts_expr mark.Stop (x.expr (x.primary c.args.depth) All) (λ xs stop. p.tuple (list_exprs xs) stop) (map expr_of c.items.items.items) c.items.tokens _ (expr_of c.in_ok-item.item) c.expr.new.tokens c.skip_if.new.tokens (map expr_of c.push.new.self.items) (primary_of c.tuple.result)
    c.items.invariant (sym c.sees_expr.ensures ∙ c.items-test.true) c.in_ok-item.ensures (c.skip_if.ensures ∙ ap (λ v. got v c.skip_if.new.tokens.at c.skip_if.new.tokens.kinds) c.if-not-skip_if.true) (ap (map expr_of) c.in_ok-push.ensures.items ∙ map-append expr_of c.items.items.items (c.in_ok-item.item ∷ [])) (c.tuple.ensures ∙ ap (λ l. p.tuple l false) (exprs_same c.push.new.self.items))

pub tuple_items-returns : goal.tuple_items-returns
tuple_items-returns t c =
    lists_end x.starts_expr mark.Stop (x.expr (x.primary c.args.depth) All) (λ xs stop. p.tuple (list_exprs xs) stop) (map expr_of c.items.items.items) c.items.tokens _ (primary_of c.tuple-2.result)
    c.items.invariant (sym c.sees_expr.ensures ∙ c.items-test.false) (c.tuple-2.ensures ∙ ap (p.tuple (exprs_of c.items.items.items)) (not_empty expr_of c.items.items c.is_empty-stop.result c.is_empty-stop.ensures) ∙ ap (λ l. p.tuple l (is_some (map expr_of c.items.items.items))) (exprs_same c.items.items.items))
