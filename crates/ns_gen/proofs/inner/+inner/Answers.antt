use Rattle.std.proofs.Common.{◌≡◌, ◌∙◌, ◌+◌, length, ap, refl, arith}
use Rattle.ns_tree.specs.declared.tree.Block.{out-Block}
use Rattle.ns_tree.specs.declared.tree.FullExpr.{out-FullExpr}
use Rattle.ns_tree.specs.declared.tree.KeyExpr.{out-KeyExpr}
use Rattle.ns_tree.specs.PlainOf.{expr_of, cascade_of, message_of, key_expr_of, keys_of, bin_of, opers_of, un_of, exprs_of, bars_of, slots_of, slot_of, statements_of, statement_list_of, statement_of}
use Rattle.ns_tree.specs.laws.Nodes.{full_expr_out, operand_out, operation_out, implicit_out, statements_out, key_expr_none, key_expr_some, block_out, block_none, block_some, keywords_out, tuple_out}
use Rattle.ns_scope.specs.Bodies as b
use Rattle.ns_resolved.specs.Statements.{expr_bodies, cascade_bodies, message_bodies, key_expr_bodies, keys_bodies, bin_bodies, opers_bodies, un_bodies, items_bodies, slots_bodies, slot_bodies, statements_bodies, list_bodies, statement_bodies}
use Rattle.ns_gen_draft.specs.Standing.{standing}
use Rattle.ns_gen_draft.specs.laws.Numbers.{behind_both, loop_number}
use Rattle.ns_gen_bodies.specs.Coding.{with_bodies}
use Rattle.ns_gen.proofs.Onward.{both_put, loop_put}
use Rattle.ns_gen.proofs.Blocks.{block_put, block_number, bare_put, bare_number, operand_blocks, operand_bodies, operation_blocks, operation_bodies, implicit_blocks, implicit_bodies}
use Rattle.ns_gen.proofs.inner.+inner.Goals as goal

pub put_full_expr-returns-clause-put : goal.put_full_expr-returns-clause-put
put_full_expr-returns-clause-put t c =
    let here = standing c.args.here.now in
    rw (full_expr_out c.args.expr.now)
    (both_put (key_expr_bodies here c.args.next.now (key_expr_of (out-FullExpr c.args.expr.now).first)) (λ n. cascade_bodies here n (cascade_of (out-FullExpr c.args.expr.now).more.items)) (c.args.next.now + length (b.key_expr_blocks here.scope (key_expr_of (out-FullExpr c.args.expr.now).first)))
    c.put_key_expr.new.next c.args.output.now c.put_key_expr.new.output c.put_cascade.new.output
    c.in_ok-put_key_expr.ensures.put c.in_ok-put_key_expr.ensures.next (rw c.deref.ensures.value at c.in_ok-put_cascade.ensures.put))

pub put_full_expr-returns-clause-next : goal.put_full_expr-returns-clause-next
put_full_expr-returns-clause-next t c =
    rw (full_expr_out c.args.expr.now)
    (behind_both _ _ c.args.next.now c.put_key_expr.new.next c.put_cascade.new.next c.in_ok-put_key_expr.ensures.next (rw c.deref.ensures.value at c.in_ok-put_cascade.ensures.next))

pub put_bin-returns-clause-put : goal.put_bin-returns-clause-put
put_bin-returns-clause-put t c =
    let here = standing c.args.here.now in
    both_put (un_bodies here c.args.next.now (un_of c.args.expr.now.first)) (λ n. opers_bodies here n (opers_of c.args.expr.now.more.items)) (c.args.next.now + length (b.un_blocks here.scope (un_of c.args.expr.now.first)))
    c.put_un.new.next c.args.output.now c.put_un.new.output c.put_opers.new.output
    c.in_ok-put_un.ensures.put c.in_ok-put_un.ensures.next (rw c.deref.ensures.value at c.in_ok-put_opers.ensures.put)

pub put_bin-returns-clause-next : goal.put_bin-returns-clause-next
put_bin-returns-clause-next t c =
    behind_both _ _ c.args.next.now c.put_un.new.next c.put_opers.new.next c.in_ok-put_un.ensures.next (rw c.deref.ensures.value at c.in_ok-put_opers.ensures.next)

pub put_key_expr-returns-in_ok-put_keys-in-Some-clause-put : goal.put_key_expr-returns-in_ok-put_keys-in-Some-clause-put
put_key_expr-returns-in_ok-put_keys-in-Some-clause-put t c =
    let here = standing c.args.here.now in
    rw (key_expr_some c.args.expr.now _ c.in-Some.is)
    (both_put (bin_bodies here c.args.next.now (bin_of c.in-Some.receiver)) (λ n. keys_bodies here n (keys_of (out-KeyExpr c.args.expr.now).keys.items)) (c.args.next.now + length (b.bin_blocks here.scope (bin_of c.in-Some.receiver)))
    c.put_bin.new.next c.args.output.now c.put_bin.new.output c.put_keys-in-Some.new.output
    c.in_ok-put_bin-in-Some.ensures.put c.in_ok-put_bin-in-Some.ensures.next (rw c.deref-in-Some.ensures.value at c.in_ok-put_keys-in-Some.ensures.put))

pub put_key_expr-returns-in_ok-put_keys-in-Some-clause-next : goal.put_key_expr-returns-in_ok-put_keys-in-Some-clause-next
put_key_expr-returns-in_ok-put_keys-in-Some-clause-next t c =
    rw (key_expr_some c.args.expr.now _ c.in-Some.is)
    (behind_both _ _ c.args.next.now c.put_bin.new.next c.put_keys-in-Some.new.next c.in_ok-put_bin-in-Some.ensures.next (rw c.deref-in-Some.ensures.value at c.in_ok-put_keys-in-Some.ensures.next))

pub put_inside-returns-in_ok-put_statements-in-Some-clause-put : goal.put_inside-returns-in_ok-put_statements-in-Some-clause-put
put_inside-returns-in_ok-put_statements-in-Some-clause-put t c =
    let here = standing c.args.here.now in
    rw (block_some c.args.block.now _ c.in-Some.is)
    (both_put (slots_bodies here c.args.next.now (slots_of c.in-Some.slots.items)) (λ n. statements_bodies here n (statements_of (out-Block c.args.block.now).body)) (c.args.next.now + length (b.slots_blocks here.scope (slots_of c.in-Some.slots.items)))
    c.put_slots.new.next c.args.output.now c.put_slots.new.output c.put_statements-in-Some.new.output
    (rw c.deref.ensures.value at c.in_ok-put_slots-in-Some.ensures.put) (rw c.deref.ensures.value at c.in_ok-put_slots-in-Some.ensures.next) c.in_ok-put_statements-in-Some.ensures.put)

pub put_inside-returns-in_ok-put_statements-in-Some-clause-next : goal.put_inside-returns-in_ok-put_statements-in-Some-clause-next
put_inside-returns-in_ok-put_statements-in-Some-clause-next t c =
    rw (block_some c.args.block.now _ c.in-Some.is)
    (behind_both _ _ c.args.next.now c.put_slots.new.next c.put_statements-in-Some.new.next (rw c.deref.ensures.value at c.in_ok-put_slots-in-Some.ensures.next) c.in_ok-put_statements-in-Some.ensures.next)

pub put_key_expr-returns-in-None-clause-put : goal.put_key_expr-returns-in-None-clause-put
put_key_expr-returns-in-None-clause-put t c = rw (key_expr_none c.args.expr.now c.in-None.is) (rw c.deref.ensures.value at c.put_keys.ensures.put)

pub put_key_expr-returns-in-None-clause-next : goal.put_key_expr-returns-in-None-clause-next
put_key_expr-returns-in-None-clause-next t c = rw (key_expr_none c.args.expr.now c.in-None.is) (rw c.deref.ensures.value at c.put_keys.ensures.next)

pub put_inside-returns-in_ok-put_statements-in-None-clause-put : goal.put_inside-returns-in_ok-put_statements-in-None-clause-put
put_inside-returns-in_ok-put_statements-in-None-clause-put t c =
    let here = standing c.args.here.now in
    let body = statements_of (out-Block c.args.block.now).body in
    let same : c.args.next.now ≡ c.args.next.now + 0 = omega arith in
    rw (block_none c.args.block.now c.in-None.is)
    (c.in_ok-put_statements-in-None.ensures.put ∙ ap (λ n. with_bodies (statements_bodies here n body) c.args.output.now) same)

pub put_inside-returns-in_ok-put_statements-in-None-clause-next : goal.put_inside-returns-in_ok-put_statements-in-None-clause-next
put_inside-returns-in_ok-put_statements-in-None-clause-next t c =
    rw (block_none c.args.block.now c.in-None.is) c.in_ok-put_statements-in-None.ensures.next

pub put_message-returns-in-Keys-clause-put : goal.put_message-returns-in-Keys-clause-put
put_message-returns-in-Keys-clause-put t c = rw (keywords_out c.args.message.now _ c.in-Keys.is) (rw c.deref-in-Keys.ensures.value at c.put_keys.ensures.put)

pub put_message-returns-in-Keys-clause-next : goal.put_message-returns-in-Keys-clause-next
put_message-returns-in-Keys-clause-next t c = rw (keywords_out c.args.message.now _ c.in-Keys.is) (rw c.deref-in-Keys.ensures.value at c.put_keys.ensures.next)

pub put_primary-returns-in-BareBlock-clause-put : goal.put_primary-returns-in-BareBlock-clause-put
put_primary-returns-in-BareBlock-clause-put t c = rw c.in-BareBlock.is (rw c.deref-in-BareBlock.ensures at c.put_bare_block.ensures.put)

pub put_primary-returns-in-BareBlock-clause-next : goal.put_primary-returns-in-BareBlock-clause-next
put_primary-returns-in-BareBlock-clause-next t c = rw c.in-BareBlock.is (rw c.deref-in-BareBlock.ensures at c.put_bare_block.ensures.next)

pub put_primary-returns-in-Tuple-clause-put : goal.put_primary-returns-in-Tuple-clause-put
put_primary-returns-in-Tuple-clause-put t c = rw (tuple_out c.args.primary.now _ _ c.in-Tuple.is) (rw c.deref-in-Tuple.ensures.value at c.put_items.ensures.put)

pub put_primary-returns-in-Tuple-clause-next : goal.put_primary-returns-in-Tuple-clause-next
put_primary-returns-in-Tuple-clause-next t c = rw (tuple_out c.args.primary.now _ _ c.in-Tuple.is) (rw c.deref-in-Tuple.ensures.value at c.put_items.ensures.next)

pub put_statements-returns-clause-put : goal.put_statements-returns-clause-put
put_statements-returns-clause-put t c = rw (statements_out c.args.body.now) (rw c.deref.ensures.value at c.put_list.ensures.put)

pub put_statements-returns-clause-next : goal.put_statements-returns-clause-next
put_statements-returns-clause-next t c = rw (statements_out c.args.body.now) (rw c.deref.ensures.value at c.put_list.ensures.next)

pub put_cascade-loop-message-preserved : goal.put_cascade-loop-message-preserved
put_cascade-loop-message-preserved t c =
    let here = standing c.args.here.now in
    let l = c.loop-message in (
      loop_put (λ n x. message_bodies here n (message_of x.1)) (λ x. length (b.message_blocks here.scope (message_of x.1))) (λ n xs. cascade_bodies here n (cascade_of xs)) (λ n x xs. refl)
          l.next c.put_message.new.next l.message-index c.args.messages.now c.message-item.result l.output c.put_message.new.output _ c.loop-message-test.true c.message-item.is
          l.invariant.0 c.in_ok-put_message.ensures.put c.in_ok-put_message.ensures.next,
      loop_number (λ x. b.message_blocks here.scope (message_of x.1)) (λ xs. b.cascade_blocks here.scope (cascade_of xs)) (λ x xs. refl)
          l.next c.put_message.new.next l.message-index _ c.args.messages.now c.message-item.result c.loop-message-test.true c.message-item.is l.invariant.1
          c.in_ok-put_message.ensures.next,
    )

pub put_keys-loop-key-preserved : goal.put_keys-loop-key-preserved
put_keys-loop-key-preserved t c =
    let here = standing c.args.here.now in
    let l = c.loop-key in (
      loop_put (λ n x. bin_bodies here n (bin_of x.1)) (λ x. length (b.bin_blocks here.scope (bin_of x.1))) (λ n xs. keys_bodies here n (keys_of xs)) (λ n x xs. refl)
          l.next c.put_bin.new.next l.key-index c.args.keys.now c.key-item.result l.output c.put_bin.new.output _ c.loop-key-test.true c.key-item.is
          l.invariant.0 c.in_ok-put_bin.ensures.put c.in_ok-put_bin.ensures.next,
      loop_number (λ x. b.bin_blocks here.scope (bin_of x.1)) (λ xs. b.keys_blocks here.scope (keys_of xs)) (λ x xs. refl)
          l.next c.put_bin.new.next l.key-index _ c.args.keys.now c.key-item.result c.loop-key-test.true c.key-item.is l.invariant.1
          c.in_ok-put_bin.ensures.next,
    )

pub put_opers-loop-oper-preserved : goal.put_opers-loop-oper-preserved
put_opers-loop-oper-preserved t c =
    let here = standing c.args.here.now in
    let l = c.loop-oper in (
      loop_put (λ n x. un_bodies here n (un_of x.1)) (λ x. length (b.un_blocks here.scope (un_of x.1))) (λ n xs. opers_bodies here n (opers_of xs)) (λ n x xs. refl)
          l.next c.put_un.new.next l.oper-index c.args.opers.now c.oper-item.result l.output c.put_un.new.output _ c.loop-oper-test.true c.oper-item.is
          l.invariant.0 c.in_ok-put_un.ensures.put c.in_ok-put_un.ensures.next,
      loop_number (λ x. b.un_blocks here.scope (un_of x.1)) (λ xs. b.opers_blocks here.scope (opers_of xs)) (λ x xs. refl)
          l.next c.put_un.new.next l.oper-index _ c.args.opers.now c.oper-item.result c.loop-oper-test.true c.oper-item.is l.invariant.1
          c.in_ok-put_un.ensures.next,
    )

pub put_items-loop-item-preserved : goal.put_items-loop-item-preserved
put_items-loop-item-preserved t c =
    let here = standing c.args.here.now in
    let l = c.loop-item in (
      loop_put (λ n x. expr_bodies here n (expr_of x)) (λ x. length (b.expr_blocks here.scope (expr_of x))) (λ n xs. items_bodies here n (exprs_of xs)) (λ n x xs. refl)
          l.next c.put_expr.new.next l.item-index c.args.items.now c.item-item.result l.output c.put_expr.new.output _ c.loop-item-test.true c.item-item.is
          l.invariant.0 c.in_ok-put_expr.ensures.put c.in_ok-put_expr.ensures.next,
      loop_number (λ x. b.expr_blocks here.scope (expr_of x)) (λ xs. b.items_blocks here.scope (exprs_of xs)) (λ x xs. refl)
          l.next c.put_expr.new.next l.item-index _ c.args.items.now c.item-item.result c.loop-item-test.true c.item-item.is l.invariant.1
          c.in_ok-put_expr.ensures.next,
    )

pub put_slots-loop-slot-preserved : goal.put_slots-loop-slot-preserved
put_slots-loop-slot-preserved t c =
    let here = standing c.args.here.now in
    let l = c.loop-slot in (
      loop_put (λ n x. slot_bodies here n (slot_of x)) (λ x. length (b.slot_blocks here.scope (slot_of x))) (λ n xs. slots_bodies here n (slots_of xs)) (λ n x xs. refl)
          l.next c.put_slot.new.next l.slot-index c.args.slots.now c.slot-item.result l.output c.put_slot.new.output _ c.loop-slot-test.true c.slot-item.is
          l.invariant.0 c.in_ok-put_slot.ensures.put c.in_ok-put_slot.ensures.next,
      loop_number (λ x. b.slot_blocks here.scope (slot_of x)) (λ xs. b.slots_blocks here.scope (slots_of xs)) (λ x xs. refl)
          l.next c.put_slot.new.next l.slot-index _ c.args.slots.now c.slot-item.result c.loop-slot-test.true c.slot-item.is l.invariant.1
          c.in_ok-put_slot.ensures.next,
    )

pub put_list-loop-statement-preserved : goal.put_list-loop-statement-preserved
put_list-loop-statement-preserved t c =
    let here = standing c.args.here.now in
    let l = c.loop-statement in (
      loop_put (λ n x. statement_bodies here n (statement_of x)) (λ x. length (b.statement_blocks here.scope (statement_of x))) (λ n xs. list_bodies here n (statement_list_of xs)) (λ n x xs. refl)
          l.next c.put_statement.new.next l.statement-index c.args.list.now c.statement-item.result l.output c.put_statement.new.output _ c.loop-statement-test.true c.statement-item.is
          l.invariant.0 c.in_ok-put_statement.ensures.put c.in_ok-put_statement.ensures.next,
      loop_number (λ x. b.statement_blocks here.scope (statement_of x)) (λ xs. b.list_blocks here.scope (statement_list_of xs)) (λ x xs. refl)
          l.next c.put_statement.new.next l.statement-index _ c.args.list.now c.statement-item.result c.loop-statement-test.true c.statement-item.is l.invariant.1
          c.in_ok-put_statement.ensures.next,
    )

pub put_block-returns-clause-put : goal.put_block-returns-clause-put
put_block-returns-clause-put t c =
    let block = out-Block c.args.block.now in
    rw (block_out c.args.block.now)
    (block_put (standing c.args.here.now) c.args.next.now c.advance.new.number block.params.items (bars_of block.slots) (statements_of block.body) c.in_ok-scope.scope
    c.args.output.now c.block-2.new.self c.put_inside.new.output (rw c.deref.ensures.value at c.in_ok-scope.ensures)
    (rw c.deref-2.ensures.value at c.in_ok-block.ensures) c.in_ok-advance.ensures (rw (block_out c.args.block.now) at c.in_ok-put_inside.ensures.put))

pub put_block-returns-clause-next : goal.put_block-returns-clause-next
put_block-returns-clause-next t c =
    let block = out-Block c.args.block.now in
    rw (block_out c.args.block.now)
    (block_number (standing c.args.here.now) c.args.next.now c.advance.new.number c.put_inside.new.next block.params.items (bars_of block.slots) (statements_of block.body)
    c.in_ok-scope.scope (rw c.deref.ensures.value at c.in_ok-scope.ensures) c.in_ok-advance.ensures
    (rw (block_out c.args.block.now) at c.in_ok-put_inside.ensures.next))

pub put_bare_block-returns-clause-put : goal.put_bare_block-returns-clause-put
put_bare_block-returns-clause-put t c =
    bare_put (standing c.args.here.now) c.args.next.now c.advance.new.number (statements_of c.args.body.now) c.in_ok-scope.scope
    c.args.output.now c.block-2.new.self c.put_statements.new.output c.in_ok-scope.ensures c.in_ok-block.ensures c.in_ok-advance.ensures
    c.in_ok-put_statements.ensures.put

pub put_bare_block-returns-clause-next : goal.put_bare_block-returns-clause-next
put_bare_block-returns-clause-next t c =
    bare_number (standing c.args.here.now) c.args.next.now c.advance.new.number c.put_statements.new.next (statements_of c.args.body.now) c.in_ok-scope.scope
    c.in_ok-scope.ensures c.in_ok-advance.ensures c.in_ok-put_statements.ensures.next

pub put_expr-returns-in-Operand-clause-put : goal.put_expr-returns-in-Operand-clause-put
put_expr-returns-in-Operand-clause-put t c =
    rw (operand_out c.args.expr.now _ c.in-Operand.is)
    (rw (operand_bodies (standing c.args.here.now) c.args.next.now (un_of c.in-Operand.operand)) c.put_un.ensures.put)

pub put_expr-returns-in-Operand-clause-next : goal.put_expr-returns-in-Operand-clause-next
put_expr-returns-in-Operand-clause-next t c =
    rw (operand_out c.args.expr.now _ c.in-Operand.is)
    (rw (operand_blocks c.args.here.now.scope.now (un_of c.in-Operand.operand)) c.put_un.ensures.next)

pub put_expr-returns-in-Operation-clause-put : goal.put_expr-returns-in-Operation-clause-put
put_expr-returns-in-Operation-clause-put t c =
    rw (operation_out c.args.expr.now _ c.in-Operation.is)
    (rw (operation_bodies (standing c.args.here.now) c.args.next.now (bin_of c.in-Operation.bin.value)) (rw c.deref.ensures at c.put_bin.ensures.put))

pub put_expr-returns-in-Operation-clause-next : goal.put_expr-returns-in-Operation-clause-next
put_expr-returns-in-Operation-clause-next t c =
    rw (operation_out c.args.expr.now _ c.in-Operation.is)
    (rw (operation_blocks c.args.here.now.scope.now (bin_of c.in-Operation.bin.value)) (rw c.deref.ensures at c.put_bin.ensures.next))

pub put_expr-returns-in-Implicit-clause-put : goal.put_expr-returns-in-Implicit-clause-put
put_expr-returns-in-Implicit-clause-put t c =
    rw (implicit_out c.args.expr.now _ c.in-Implicit.is)
    (rw (implicit_bodies (standing c.args.here.now) c.args.next.now (keys_of c.in-Implicit.keys.items)) (rw c.deref-in-Implicit.ensures.value at c.put_keys.ensures.put))

pub put_expr-returns-in-Implicit-clause-next : goal.put_expr-returns-in-Implicit-clause-next
put_expr-returns-in-Implicit-clause-next t c =
    rw (implicit_out c.args.expr.now _ c.in-Implicit.is)
    (rw (implicit_blocks c.args.here.now.scope.now (keys_of c.in-Implicit.keys.items)) (rw c.deref-in-Implicit.ensures.value at c.put_keys.ensures.next))
