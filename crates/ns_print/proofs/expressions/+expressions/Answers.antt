use Rattle.std.proofs.Common.{arith, refl}
use Rattle.std.proofs.lemmas.Grind.{common_steps}
use Rattle.ns_tree.specs.laws.Nodes.{full_expr_out, operand_out, operation_out, implicit_out, alone_out, statements_out, key_expr_none, key_expr_some, block_some, keywords_out, tuple_out}
use Rattle.ns_print.proofs.expressions.+expressions.Goals as goal

pub put_full_expr-returns : goal.put_full_expr-returns
put_full_expr-returns t c = rw (full_expr_out c.args.expr.now) (grind (arith, common_steps))

pub put_key_expr-returns-in-None : goal.put_key_expr-returns-in-None
put_key_expr-returns-in-None t c = rw (key_expr_none c.args.expr.now c.in-None.is) (grind (arith, common_steps))

pub put_message-returns-in-Keys : goal.put_message-returns-in-Keys
put_message-returns-in-Keys t c = rw (keywords_out c.args.message.now _ c.in-Keys.is) (grind (arith, common_steps))

pub put_primary-returns-in-Tuple : goal.put_primary-returns-in-Tuple
put_primary-returns-in-Tuple t c = rw (tuple_out c.args.primary.now _ _ c.in-Tuple.is) (grind (arith, common_steps))

pub put_statements-returns : goal.put_statements-returns
put_statements-returns t c = rw (statements_out c.args.body.now) (grind (arith, common_steps))

pub put_block-returns-in_ok-put_slots-in-Some : goal.put_block-returns-in_ok-put_slots-in-Some
put_block-returns-in_ok-put_slots-in-Some t c = rw (block_some c.args.block.now _ c.in-Some.is) (grind (arith, common_steps))

pub put_key_expr-returns-in_ok-put_bin-in-Some : goal.put_key_expr-returns-in_ok-put_bin-in-Some
put_key_expr-returns-in_ok-put_bin-in-Some t c = rw (key_expr_some c.args.expr.now _ c.in-Some.is) (grind (arith, common_steps))

pub put_cascade-loop-message-init : goal.put_cascade-loop-message-init
put_cascade-loop-message-init t c = refl

pub put_cascade-loop-message-preserved : goal.put_cascade-loop-message-preserved
put_cascade-loop-message-preserved t c = grind (arith, common_steps)

pub put_cascade-returns : goal.put_cascade-returns
put_cascade-returns t c = grind (arith, common_steps)

pub put_keys-loop-key-init : goal.put_keys-loop-key-init
put_keys-loop-key-init t c = refl

pub put_keys-loop-key-preserved : goal.put_keys-loop-key-preserved
put_keys-loop-key-preserved t c = grind (arith, common_steps)

pub put_keys-returns : goal.put_keys-returns
put_keys-returns t c = grind (arith, common_steps)

pub put_opers-loop-oper-init : goal.put_opers-loop-oper-init
put_opers-loop-oper-init t c = refl

pub put_opers-loop-oper-preserved : goal.put_opers-loop-oper-preserved
put_opers-loop-oper-preserved t c = grind (arith, common_steps)

pub put_opers-returns : goal.put_opers-returns
put_opers-returns t c = grind (arith, common_steps)

pub put_slots-loop-slot-preserved : goal.put_slots-loop-slot-preserved
put_slots-loop-slot-preserved t c = grind (arith, common_steps)

pub put_slots-returns : goal.put_slots-returns
put_slots-returns t c = grind (arith, common_steps)

pub put_items-loop-item-init : goal.put_items-loop-item-init
put_items-loop-item-init t c = refl

pub put_items-loop-item-preserved : goal.put_items-loop-item-preserved
put_items-loop-item-preserved t c = grind (arith, common_steps)

pub put_items-returns : goal.put_items-returns
put_items-returns t c = grind (arith, common_steps)

pub put_list-loop-statement-init : goal.put_list-loop-statement-init
put_list-loop-statement-init t c = refl

pub put_list-loop-statement-preserved : goal.put_list-loop-statement-preserved
put_list-loop-statement-preserved t c = grind (arith, common_steps)

pub put_list-returns : goal.put_list-returns
put_list-returns t c = grind (arith, common_steps)

pub put_expr-returns-in-Operand : goal.put_expr-returns-in-Operand
put_expr-returns-in-Operand t c = rw (operand_out c.args.expr.now _ c.in-Operand.is) (grind (arith, common_steps))

pub put_expr-returns-in-Operation : goal.put_expr-returns-in-Operation
put_expr-returns-in-Operation t c = rw (operation_out c.args.expr.now _ c.in-Operation.is) (grind (arith, common_steps))

pub put_expr-returns-in-Implicit : goal.put_expr-returns-in-Implicit
put_expr-returns-in-Implicit t c = rw (implicit_out c.args.expr.now _ c.in-Implicit.is) (grind (arith, common_steps))

pub put_un-returns-in-Alone : goal.put_un-returns-in-Alone
put_un-returns-in-Alone t c = rw (alone_out c.args.expr.now _ _ c.in-Alone.is) (grind (arith, common_steps))
