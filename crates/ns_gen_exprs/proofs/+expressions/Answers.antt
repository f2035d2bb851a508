use Rattle.std.proofs.Common.{◌≡◌, ◌∙◌, ℕ, ◌+◌, ◌-◌, length, take, drop, length-drop, refl, sym, arith}
use Rattle.ns_tree.specs.declared.tree.FullExpr.{out-FullExpr}
use Rattle.ns_tree.specs.declared.tree.KeyExpr.{out-KeyExpr}
use Rattle.ns_tree.specs.PlainOf.{un_of, sent_of, opers_of, keys_of, bin_of, key_expr_of, primary_of}
use Rattle.ns_tree.specs.laws.Nodes.{full_expr_out, operand_out, operation_out, implicit_out, key_expr_none, key_expr_some, keywords_out, tuple_out}
use Rattle.ns_scope.specs.Bodies.{bin_blocks, key_expr_blocks}
use Rattle.ns_resolved.specs.Expressions.{un_node, un_said, bin_said, key_expr_said, primary_receiver}
use Rattle.ns_gen_draft.specs.Standing.{standing}
use Rattle.ns_gen_draft.specs.laws.Numbers.{behind_both}
use Rattle.ns_gen_exprs.specs.Sending.{keys_left}
use Rattle.ns_gen_exprs.proofs.Walking.{oper_put, bin_put, bin_kept, keywords_whole, implicit_whole, keyed_put, keyed_left, received_put}
use Rattle.ns_gen_exprs.proofs.Walking.{keys_step, keys_done, keys_number, items_step, items_done, items_number, expr_put}
use Rattle.ns_gen_exprs.proofs.Firsts.{IsFirst, parted, un_first, bin_first, keys_first, rest_step, rest_number}
use Rattle.ns_gen_exprs.proofs.Alone.{un_alone_said, un_alone_counted, bin_alone_said, bin_alone_counted, key_alone_node, key_alone_counted}
use Rattle.ns_gen_exprs.proofs.Alone.{operand_node, operand_counted, operation_counted, implicit_counted}
use Rattle.ns_gen_exprs.proofs.Cascaded.{cascade_whole, some_more}
use Rattle.ns_gen_exprs.proofs.+expressions.Goals as goal

pub expressions::put_bin-returns-clause-put : goal.expressions::put_bin-returns-clause-put
expressions::put_bin-returns-clause-put t c =
    bin_put (standing c.args.here.now) c.args.next.now c.put_un.new.next (un_of c.args.bin.now.first) (opers_of c.args.bin.now.more.items)
    c.in_ok-receiver.receiver c.args.writer.now c.put_un.new.writer c.put_opers.new.writer
    c.in_ok-receiver.ensures.kept c.in_ok-receiver.ensures.put c.in_ok-receiver.ensures.next (rw c.deref.ensures.value at c.in_ok-behind.ensures.put)

pub expressions::put_bin-returns-clause-kept : goal.expressions::put_bin-returns-clause-kept
expressions::put_bin-returns-clause-kept t c =
    bin_kept (standing c.args.here.now) c.args.next.now (un_of c.args.bin.now.first) (opers_of c.args.bin.now.more.items)
    c.in_ok-receiver.receiver c.in_ok-behind.behind c.in_ok-receiver.ensures.kept (rw c.deref.ensures.value at c.in_ok-behind.ensures.left)

pub expressions::put_bin-returns-clause-next : goal.expressions::put_bin-returns-clause-next
expressions::put_bin-returns-clause-next t c =
    behind_both _ _ c.args.next.now c.put_un.new.next c.put_opers.new.next c.in_ok-receiver.ensures.next (rw c.deref.ensures.value at c.in_ok-behind.ensures.next)

pub expressions::put_full_expr-returns-clause-put : goal.expressions::put_full_expr-returns-clause-put
expressions::put_full_expr-returns-clause-put t c =
    rw (full_expr_out c.args.expr.now)
    (expr_put (standing c.args.here.now) (out-FullExpr c.args.expr.now).sets.items _ c.args.writer.now c.put_unset.new.writer c.put_sets.new.writer
    (rw (full_expr_out c.args.expr.now) at c.in_ok-put_unset.ensures.put) (rw c.deref.ensures.value at c.in_ok-put_sets.ensures))

pub expressions::put_implicit-returns-clause-put : goal.expressions::put_implicit-returns-clause-put
expressions::put_implicit-returns-clause-put t c =
    implicit_whole (standing c.args.here.now) c.args.next.now c.in_ok-reach.reach (keys_of c.args.keys.now) c.in_ok-selector.selector c.place-place.result
    c.in_ok-way.way c.in_ok-count.count c.args.writer.now c.begin_object.new.writer c.put_keys.new.writer c.sends.new.self
    c.in_ok-selector.ensures (rw c.first_key.ensures at c.place-place.ensures) c.in_ok-count.ensures
    (rw c.bytes.ensures at (rw c.resolve.ensures at c.in_ok-reach.ensures)) c.in_ok-way.ensures.way c.in_ok-way.ensures.lines c.in_ok-put_keys.ensures.put
    (rw c.bytes-2.ensures at c.in_ok-sends.ensures.put)

pub expressions::put_keywords-returns-clause-put : goal.expressions::put_keywords-returns-clause-put
expressions::put_keywords-returns-clause-put t c =
    keywords_whole (standing c.args.here.now) c.args.next.now c.args.receiver.now (keys_of c.args.keys.now) c.in_ok-selector.selector c.place-place.result
    c.in_ok-way.way c.in_ok-count.count c.args.writer.now c.begin.new.writer c.put_keys.new.writer c.sends.new.self
    c.in_ok-selector.ensures (rw c.first_key.ensures at c.place-place.ensures) c.in_ok-count.ensures
    (rw c.bytes.ensures at c.in_ok-way.ensures.way) (rw c.bytes.ensures at c.in_ok-way.ensures.lines) c.in_ok-put_keys.ensures.put
    (rw c.bytes-2.ensures at c.in_ok-sends.ensures.put)

pub expressions::put_items-loop-item-preserved : goal.expressions::put_items-loop-item-preserved
expressions::put_items-loop-item-preserved t c = (
  items_step (standing c.args.here.now) c.loop-item.next c.put_expr.new.next c.loop-item.item-index c.args.items.now c.item-item.result c.loop-item.writer c.put_expr.new.writer _
      c.loop-item-test.true c.item-item.is c.loop-item.invariant.0 c.in_ok-put_expr.ensures.put c.in_ok-put_expr.ensures.next,
  items_number (standing c.args.here.now) c.loop-item.next c.put_expr.new.next c.loop-item.item-index _ c.args.items.now c.item-item.result
      c.loop-item-test.true c.item-item.is c.loop-item.invariant.1 c.in_ok-put_expr.ensures.next,
)

pub expressions::put_items-returns-clause-put : goal.expressions::put_items-returns-clause-put
expressions::put_items-returns-clause-put t c =
    items_done (standing c.args.here.now) c.loop-item.next c.loop-item.item-index c.args.items.now c.loop-item.writer _
    (omega (c.loop-item-test.false, arith)) c.loop-item.invariant.0

pub expressions::put_keys-loop-key-preserved : goal.expressions::put_keys-loop-key-preserved
expressions::put_keys-loop-key-preserved t c = (
  keys_step (standing c.args.here.now) c.loop-key.next c.put_bin_value.new.next c.loop-key.key-index c.args.keys.now c.key-item.result c.loop-key.writer c.put_bin_value.new.writer _
      c.loop-key-test.true c.key-item.is c.loop-key.invariant.0 c.in_ok-put_bin_value.ensures.put c.in_ok-put_bin_value.ensures.next,
  keys_number (standing c.args.here.now) c.loop-key.next c.put_bin_value.new.next c.loop-key.key-index _ c.args.keys.now c.key-item.result
      c.loop-key-test.true c.key-item.is c.loop-key.invariant.1 c.in_ok-put_bin_value.ensures.next,
)

pub expressions::put_keys-returns-clause-put : goal.expressions::put_keys-returns-clause-put
expressions::put_keys-returns-clause-put t c =
    keys_done (standing c.args.here.now) c.loop-key.next c.loop-key.key-index c.args.keys.now c.loop-key.writer _
    (omega (c.loop-key-test.false, arith)) c.loop-key.invariant.0

pub expressions::put_oper-returns-clause-put : goal.expressions::put_oper-returns-clause-put
expressions::put_oper-returns-clause-put t c =
    oper_put (standing c.args.here.now) c.args.receiver.now c.args.name.now c.place.result (un_node (standing c.args.here.now) c.args.next.now (un_of c.args.argument.now))
    c.in_ok-way.way c.args.writer.now c.begin.new.writer c.put_un_value.new.writer c.sends.new.self
    c.place.ensures (rw c.bytes-selector.ensures at c.in_ok-way.ensures.way) (rw c.bytes-selector.ensures at c.in_ok-way.ensures.lines)
    c.in_ok-put_un_value.ensures.put (rw c.bytes-selector.ensures at c.in_ok-sends.ensures.put)

pub expressions::put_keyed-returns-in_ok-put_keywords-in-len1-up-clause-put : goal.expressions::put_keyed-returns-in_ok-put_keywords-in-len1-up-clause-put
expressions::put_keyed-returns-in_ok-put_keywords-in-len1-up-clause-put t c =
    c.in_ok-put_keywords-in-len1-up.ensures.put
    ∙ keyed_put (standing c.args.here.now) c.args.next.now c.args.receiver c.args.keys.now c.args.writer.now (omega arith)

pub expressions::put_keyed-returns-in_ok-put_keywords-in-len1-up-clause-left : goal.expressions::put_keyed-returns-in_ok-put_keywords-in-len1-up-clause-left
expressions::put_keyed-returns-in_ok-put_keywords-in-len1-up-clause-left t c = keyed_left c.args.receiver c.args.keys.now (omega arith)

pub expressions::put_key_value-returns-in_ok-put_implicit-in-None-clause-put : goal.expressions::put_key_value-returns-in_ok-put_implicit-in-None-clause-put
expressions::put_key_value-returns-in_ok-put_implicit-in-None-clause-put t c =
    rw (key_expr_none c.args.expr.now c.in-None.is) (rw c.deref.ensures.value at c.in_ok-put_implicit-in-None.ensures.put)

pub expressions::put_key_value-returns-in_ok-put_implicit-in-None-clause-next : goal.expressions::put_key_value-returns-in_ok-put_implicit-in-None-clause-next
expressions::put_key_value-returns-in_ok-put_implicit-in-None-clause-next t c =
    rw (key_expr_none c.args.expr.now c.in-None.is) (rw c.deref.ensures.value at c.in_ok-put_implicit-in-None.ensures.next)

pub expressions::put_key_value-returns-in_ok-put_keyed_value-in-Some-clause-put : goal.expressions::put_key_value-returns-in_ok-put_keyed_value-in-Some-clause-put
expressions::put_key_value-returns-in_ok-put_keyed_value-in-Some-clause-put t c =
    let keys = keys_of (out-KeyExpr c.args.expr.now).keys.items in
    rw (key_expr_some c.args.expr.now _ c.in-Some.is)
    (received_put (standing c.args.here.now) c.args.next.now c.put_bin.new.next (bin_of c.in-Some.receiver) keys
    c.in_ok-receiver-in-Some.receiver (keys_left c.in_ok-receiver-in-Some.receiver keys) c.args.writer.now c.put_bin.new.writer
    _ c.put_keyed_value.new.writer
    c.in_ok-receiver-in-Some.ensures.kept c.in_ok-receiver-in-Some.ensures.put c.in_ok-receiver-in-Some.ensures.next refl refl
    (rw c.deref-in-Some.ensures.value at c.in_ok-put_keyed_value-in-Some.ensures.put))

pub expressions::put_key_value-returns-in_ok-put_keyed_value-in-Some-clause-next : goal.expressions::put_key_value-returns-in_ok-put_keyed_value-in-Some-clause-next
expressions::put_key_value-returns-in_ok-put_keyed_value-in-Some-clause-next t c =
    rw (key_expr_some c.args.expr.now _ c.in-Some.is)
    (behind_both _ _ c.args.next.now c.put_bin.new.next c.put_keyed_value.new.next c.in_ok-receiver-in-Some.ensures.next
    (rw c.deref-in-Some.ensures.value at c.in_ok-put_keyed_value-in-Some.ensures.next))

pub expressions::put_primary-returns-in_ok-put_tuple-in-Tuple-clause-put : goal.expressions::put_primary-returns-in_ok-put_tuple-in-Tuple-clause-put
expressions::put_primary-returns-in_ok-put_tuple-in-Tuple-clause-put t c =
    rw (tuple_out c.args.primary.now _ _ c.in-Tuple.is) (rw c.deref-in-Tuple.ensures.value at c.in_ok-put_tuple-in-Tuple.ensures.put)

pub expressions::put_primary-returns-in_ok-put_tuple-in-Tuple-clause-next : goal.expressions::put_primary-returns-in_ok-put_tuple-in-Tuple-clause-next
expressions::put_primary-returns-in_ok-put_tuple-in-Tuple-clause-next t c =
    rw (tuple_out c.args.primary.now _ _ c.in-Tuple.is) (rw c.deref-in-Tuple.ensures.value at c.in_ok-put_tuple-in-Tuple.ensures.next)

pub cascades::put_message-returns-in-Keys-clause-put : goal.cascades::put_message-returns-in-Keys-clause-put
cascades::put_message-returns-in-Keys-clause-put t c =
    rw (keywords_out c.args.message.now _ c.in-Keys.is) (rw c.deref-in-Keys.ensures.value at c.put_keywords.ensures.put)

pub cascades::put_message-returns-in-Keys-clause-next : goal.cascades::put_message-returns-in-Keys-clause-next
cascades::put_message-returns-in-Keys-clause-next t c =
    rw (keywords_out c.args.message.now _ c.in-Keys.is) (rw c.deref-in-Keys.ensures.value at c.put_keywords.ensures.next)

pub cascades::put_rest-loop-message-preserved : goal.cascades::put_rest-loop-message-preserved
cascades::put_rest-loop-message-preserved t c =
    let count : c.loop-message.left - 1 ≡ length (drop (c.loop-message.message-index + 1) c.args.messages.now) =
    omega (
      c.loop-message.invariant.0,
      length-drop c.loop-message.message-index c.args.messages.now,
      length-drop (c.loop-message.message-index + 1) c.args.messages.now,
      c.loop-message-test.true,
      arith,
    ) in (
      count,
      rest_step (standing c.args.here.now) c.loop-message.next c.put_message.new.next c.loop-message.message-index (c.loop-message.left - 1)
          c.args.receiver.now c.args.messages.now c.message-item.result c.loop-message.writer c.does.new.self c.put_copies.new.writer
          c.put_message.new.writer _ c.loop-message-test.true c.message-item.is count c.loop-message.invariant.1 c.in_ok-does.ensures.put
          c.in_ok-put_copies.ensures c.in_ok-put_message.ensures.put c.in_ok-put_message.ensures.next,
      rest_number (standing c.args.here.now) c.loop-message.next c.put_message.new.next c.loop-message.message-index _ c.args.messages.now
          c.message-item.result c.loop-message-test.true c.message-item.is c.loop-message.invariant.2 c.in_ok-put_message.ensures.next,
    )

-- ---- the message before a cascade

first_sent : (t : ℕ) (c : goal.cascades::put_first_sent-In_ok-put_name-in-len1-up t) →
    IsFirst (standing c.args.here.now) (un_said (standing c.args.here.now) c.args.next.now (sent_of c.args.sent.now)) c.in_ok-receiver-in-len1-up.receiver
    c.args.writer.now c.put_name.new.writer
first_sent t c =
    let names = c.args.sent.now.names.items in
    un_first (standing c.args.here.now) (primary_receiver (standing c.args.here.now) c.args.next.now c.args.sent.now.at (primary_of c.args.sent.now.primary))
    names (take (length names - 1) names) c.last-item.result c.in_ok-first-in-len1-up.first c.in_ok-receiver-in-len1-up.receiver
    c.args.writer.now c.put_primary.new.writer c.put_names.new.writer c.put_copy.new.writer c.put_name.new.writer
    (parted names c.last-item.result (rw c.as_slice.ensures.value at c.in-len1-up.len_at_least) (rw c.as_slice.ensures.value at c.last-item.is))
    c.in_ok-first-in-len1-up.ensures.kept c.in_ok-first-in-len1-up.ensures.put
    (rw c.as_slice.ensures.value at c.in_ok-receiver-in-len1-up.ensures.put) (rw c.as_slice.ensures.value at c.in_ok-receiver-in-len1-up.ensures.left)
    c.in_ok-put_copy-in-len1-up.ensures c.in_ok-put_name-in-len1-up.ensures

pub cascades::put_first_sent-returns-in_ok-put_name-in-len1-up-clause-put : goal.cascades::put_first_sent-returns-in_ok-put_name-in-len1-up-clause-put
cascades::put_first_sent-returns-in_ok-put_name-in-len1-up-clause-put t c = (first_sent t c).0

pub cascades::put_first_sent-returns-in_ok-put_name-in-len1-up-clause-kept : goal.cascades::put_first_sent-returns-in_ok-put_name-in-len1-up-clause-kept
cascades::put_first_sent-returns-in_ok-put_name-in-len1-up-clause-kept t c = (first_sent t c).1

pub cascades::put_first_sent-returns-in_ok-put_name-in-len1-up-clause-said : goal.cascades::put_first_sent-returns-in_ok-put_name-in-len1-up-clause-said
cascades::put_first_sent-returns-in_ok-put_name-in-len1-up-clause-said t c = (first_sent t c).2

pub cascades::put_first_oper-returns-in-empty-clause-put : goal.cascades::put_first_oper-returns-in-empty-clause-put
cascades::put_first_oper-returns-in-empty-clause-put t c =
    rw (un_alone_said (standing c.args.here.now) c.args.next.now c.args.bin.now (rw c.as_slice.ensures.value at c.in-empty.len_below)) c.put_first_name.ensures.put

pub cascades::put_first_oper-returns-in-empty-clause-kept : goal.cascades::put_first_oper-returns-in-empty-clause-kept
cascades::put_first_oper-returns-in-empty-clause-kept t c =
    rw (un_alone_said (standing c.args.here.now) c.args.next.now c.args.bin.now (rw c.as_slice.ensures.value at c.in-empty.len_below)) c.put_first_name.ensures.kept

pub cascades::put_first_oper-returns-in-empty-clause-said : goal.cascades::put_first_oper-returns-in-empty-clause-said
cascades::put_first_oper-returns-in-empty-clause-said t c =
    rw (un_alone_said (standing c.args.here.now) c.args.next.now c.args.bin.now (rw c.as_slice.ensures.value at c.in-empty.len_below)) c.put_first_name.ensures.said

pub cascades::put_first_oper-returns-in-empty-clause-next : goal.cascades::put_first_oper-returns-in-empty-clause-next
cascades::put_first_oper-returns-in-empty-clause-next t c =
    rw (un_alone_counted c.args.here.now.scope.now c.args.bin.now (rw c.as_slice.ensures.value at c.in-empty.len_below)) c.put_first_name.ensures.next

first_oper : (t : ℕ) (c : goal.cascades::put_first_oper-In_ok-put_oper-in-len1-up t) →
    IsFirst (standing c.args.here.now) (bin_said (standing c.args.here.now) c.args.next.now (bin_of c.args.bin.now)) c.in_ok-receiver-in-len1-up.receiver
    c.args.writer.now c.put_oper.new.writer
    × (c.put_oper.new.next ≡ c.args.next.now + length (bin_blocks c.args.here.now.scope.now (bin_of c.args.bin.now)))
first_oper t c =
    let opers = c.args.bin.now.more.items in
    bin_first (standing c.args.here.now) c.args.next.now c.put_un.new.next c.put_opers.new.next c.put_oper.new.next (un_of c.args.bin.now.first)
    opers (take (length opers - 1) opers) c.last-item.result c.in_ok-first-in-len1-up.first c.in_ok-receiver-in-len1-up.receiver
    c.args.writer.now c.put_un.new.writer c.put_opers.new.writer c.put_copy.new.writer c.put_oper.new.writer
    (parted opers c.last-item.result (rw c.as_slice.ensures.value at c.in-len1-up.len_at_least) (rw c.as_slice.ensures.value at c.last-item.is))
    c.in_ok-first-in-len1-up.ensures.kept c.in_ok-first-in-len1-up.ensures.put c.in_ok-first-in-len1-up.ensures.next
    (rw c.as_slice.ensures.value at c.in_ok-receiver-in-len1-up.ensures.put) (rw c.as_slice.ensures.value at c.in_ok-receiver-in-len1-up.ensures.left)
    (rw c.as_slice.ensures.value at c.in_ok-receiver-in-len1-up.ensures.next)
    c.in_ok-put_copy-in-len1-up.ensures c.in_ok-put_oper-in-len1-up.ensures.put c.in_ok-put_oper-in-len1-up.ensures.next

pub cascades::put_first_oper-returns-in_ok-put_oper-in-len1-up-clause-put : goal.cascades::put_first_oper-returns-in_ok-put_oper-in-len1-up-clause-put
cascades::put_first_oper-returns-in_ok-put_oper-in-len1-up-clause-put t c = (first_oper t c).0.0

pub cascades::put_first_oper-returns-in_ok-put_oper-in-len1-up-clause-kept : goal.cascades::put_first_oper-returns-in_ok-put_oper-in-len1-up-clause-kept
cascades::put_first_oper-returns-in_ok-put_oper-in-len1-up-clause-kept t c = (first_oper t c).0.1

pub cascades::put_first_oper-returns-in_ok-put_oper-in-len1-up-clause-said : goal.cascades::put_first_oper-returns-in_ok-put_oper-in-len1-up-clause-said
cascades::put_first_oper-returns-in_ok-put_oper-in-len1-up-clause-said t c = (first_oper t c).0.2

pub cascades::put_first_oper-returns-in_ok-put_oper-in-len1-up-clause-next : goal.cascades::put_first_oper-returns-in_ok-put_oper-in-len1-up-clause-next
cascades::put_first_oper-returns-in_ok-put_oper-in-len1-up-clause-next t c = (first_oper t c).1

pub cascades::put_first-returns-in-empty-clause-put : goal.cascades::put_first-returns-in-empty-clause-put
cascades::put_first-returns-in-empty-clause-put t c =
    rw (bin_alone_said (standing c.args.here.now) c.args.next.now c.args.expr.now c.in-Some.bin c.in-Some.is (rw c.as_slice.ensures.value at c.in-empty.len_below))
    c.put_first_oper.ensures.put

pub cascades::put_first-returns-in-empty-clause-kept : goal.cascades::put_first-returns-in-empty-clause-kept
cascades::put_first-returns-in-empty-clause-kept t c =
    rw (bin_alone_said (standing c.args.here.now) c.args.next.now c.args.expr.now c.in-Some.bin c.in-Some.is (rw c.as_slice.ensures.value at c.in-empty.len_below))
    c.put_first_oper.ensures.kept

pub cascades::put_first-returns-in-empty-clause-said : goal.cascades::put_first-returns-in-empty-clause-said
cascades::put_first-returns-in-empty-clause-said t c =
    rw (bin_alone_said (standing c.args.here.now) c.args.next.now c.args.expr.now c.in-Some.bin c.in-Some.is (rw c.as_slice.ensures.value at c.in-empty.len_below))
    c.put_first_oper.ensures.said

pub cascades::put_first-returns-in-empty-clause-next : goal.cascades::put_first-returns-in-empty-clause-next
cascades::put_first-returns-in-empty-clause-next t c =
    rw (bin_alone_counted c.args.here.now.scope.now c.args.expr.now c.in-Some.bin c.in-Some.is (rw c.as_slice.ensures.value at c.in-empty.len_below))
    c.put_first_oper.ensures.next

first_keys : (t : ℕ) (c : goal.cascades::put_first-In_ok-put_keywords-in-len1-up t) →
    IsFirst (standing c.args.here.now) (key_expr_said (standing c.args.here.now) c.args.next.now (key_expr_of c.args.expr.now))
    c.in_ok-receiver-in-len1-up.receiver c.args.writer.now c.put_keywords.new.writer
    × (c.put_keywords.new.next ≡ c.args.next.now + length (key_expr_blocks c.args.here.now.scope.now (key_expr_of c.args.expr.now)))
first_keys t c =
    rw (key_expr_some c.args.expr.now c.in-Some.bin c.in-Some.is)
    (keys_first (standing c.args.here.now) c.args.next.now c.put_bin.new.next c.put_keywords.new.next (bin_of c.in-Some.bin)
    (out-KeyExpr c.args.expr.now).keys.items c.in_ok-receiver-in-len1-up.receiver c.args.writer.now c.put_bin.new.writer c.put_copy.new.writer
    c.put_keywords.new.writer (omega (rw c.as_slice.ensures.value at c.in-len1-up.len_at_least, arith))
    c.in_ok-receiver-in-len1-up.ensures.kept c.in_ok-receiver-in-len1-up.ensures.put c.in_ok-receiver-in-len1-up.ensures.next
    c.in_ok-put_copy-in-len1-up.ensures (rw c.deref.ensures.value at c.in_ok-put_keywords-in-len1-up.ensures.put)
    (rw c.deref.ensures.value at c.in_ok-put_keywords-in-len1-up.ensures.next))

pub cascades::put_first-returns-in_ok-put_keywords-in-len1-up-clause-put : goal.cascades::put_first-returns-in_ok-put_keywords-in-len1-up-clause-put
cascades::put_first-returns-in_ok-put_keywords-in-len1-up-clause-put t c = (first_keys t c).0.0

pub cascades::put_first-returns-in_ok-put_keywords-in-len1-up-clause-kept : goal.cascades::put_first-returns-in_ok-put_keywords-in-len1-up-clause-kept
cascades::put_first-returns-in_ok-put_keywords-in-len1-up-clause-kept t c = (first_keys t c).0.1

pub cascades::put_first-returns-in_ok-put_keywords-in-len1-up-clause-said : goal.cascades::put_first-returns-in_ok-put_keywords-in-len1-up-clause-said
cascades::put_first-returns-in_ok-put_keywords-in-len1-up-clause-said t c = (first_keys t c).0.2

pub cascades::put_first-returns-in_ok-put_keywords-in-len1-up-clause-next : goal.cascades::put_first-returns-in_ok-put_keywords-in-len1-up-clause-next
cascades::put_first-returns-in_ok-put_keywords-in-len1-up-clause-next t c = (first_keys t c).1

-- ---- cascades

pub cascades::put_cascade-returns-clause-put : goal.cascades::put_cascade-returns-clause-put
cascades::put_cascade-returns-clause-put t c =
    rw (full_expr_out c.args.expr.now)
    (cascade_whole (standing c.args.here.now) c.args.next.now c.put_first.new.next (key_expr_of (out-FullExpr c.args.expr.now).first)
    (out-FullExpr c.args.expr.now).sets.items (out-FullExpr c.args.expr.now).more.items c.in_ok-receiver.receiver c.args.writer.now c.put_first.new.writer
    c.put_rest.new.writer c.in_ok-receiver.ensures.put c.in_ok-receiver.ensures.kept c.in_ok-receiver.ensures.said c.in_ok-receiver.ensures.next
    (sym c.if-not-is_repeated.ensures) (some_more _ _ (omega (rw c.deref.ensures.value at c.deref.ensures.len, arith)) c.if-is_empty.ensures) (rw c.deref.ensures.value at c.in_ok-put_rest.ensures.put))

pub cascades::put_cascade-returns-clause-next : goal.cascades::put_cascade-returns-clause-next
cascades::put_cascade-returns-clause-next t c =
    rw (full_expr_out c.args.expr.now)
    (behind_both _ _ c.args.next.now c.put_first.new.next c.put_rest.new.next c.in_ok-receiver.ensures.next
    (rw c.deref.ensures.value at c.in_ok-put_rest.ensures.next))

pub expressions::put_unset-returns-in_ok-put_key_value-in-empty-clause-put : goal.expressions::put_unset-returns-in_ok-put_key_value-in-empty-clause-put
expressions::put_unset-returns-in_ok-put_key_value-in-empty-clause-put t c =
    rw (key_alone_node (standing c.args.here.now) c.args.next.now c.args.expr.now (rw c.as_slice.ensures.value at c.in-empty.len_below))
    c.in_ok-put_key_value-in-empty.ensures.put

pub expressions::put_unset-returns-in_ok-put_key_value-in-empty-clause-next : goal.expressions::put_unset-returns-in_ok-put_key_value-in-empty-clause-next
expressions::put_unset-returns-in_ok-put_key_value-in-empty-clause-next t c =
    rw (key_alone_counted c.args.here.now.scope.now c.args.expr.now (rw c.as_slice.ensures.value at c.in-empty.len_below))
    c.in_ok-put_key_value-in-empty.ensures.next

pub expressions::put_expr-returns-in-Operand-clause-put : goal.expressions::put_expr-returns-in-Operand-clause-put
expressions::put_expr-returns-in-Operand-clause-put t c =
    rw (operand_out c.args.expr.now _ c.in-Operand.is)
    (rw (operand_node (standing c.args.here.now) c.args.next.now (un_of c.in-Operand.operand)) c.put_un_value.ensures.put)

pub expressions::put_expr-returns-in-Operand-clause-next : goal.expressions::put_expr-returns-in-Operand-clause-next
expressions::put_expr-returns-in-Operand-clause-next t c =
    rw (operand_out c.args.expr.now _ c.in-Operand.is)
    (rw (operand_counted c.args.here.now.scope.now (un_of c.in-Operand.operand)) c.put_un_value.ensures.next)

pub expressions::put_expr-returns-in-Operation-clause-put : goal.expressions::put_expr-returns-in-Operation-clause-put
expressions::put_expr-returns-in-Operation-clause-put t c =
    rw (operation_out c.args.expr.now _ c.in-Operation.is) (rw c.deref.ensures at c.put_bin_value.ensures.put)

pub expressions::put_expr-returns-in-Operation-clause-next : goal.expressions::put_expr-returns-in-Operation-clause-next
expressions::put_expr-returns-in-Operation-clause-next t c =
    rw (operation_out c.args.expr.now _ c.in-Operation.is)
    (rw (operation_counted c.args.here.now.scope.now (bin_of c.in-Operation.bin.value)) (rw c.deref.ensures at c.put_bin_value.ensures.next))

pub expressions::put_expr-returns-in-Implicit-clause-put : goal.expressions::put_expr-returns-in-Implicit-clause-put
expressions::put_expr-returns-in-Implicit-clause-put t c =
    rw (implicit_out c.args.expr.now _ c.in-Implicit.is) (rw c.deref-in-Implicit.ensures.value at c.put_implicit.ensures.put)

pub expressions::put_expr-returns-in-Implicit-clause-next : goal.expressions::put_expr-returns-in-Implicit-clause-next
expressions::put_expr-returns-in-Implicit-clause-next t c =
    rw (implicit_out c.args.expr.now _ c.in-Implicit.is)
    (rw (implicit_counted c.args.here.now.scope.now (keys_of c.in-Implicit.keys.items)) (rw c.deref-in-Implicit.ensures.value at c.put_implicit.ensures.next))
