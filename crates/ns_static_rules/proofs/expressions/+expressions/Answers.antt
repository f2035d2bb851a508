use Rattle.std.proofs.Common.{arith, refl}
use Rattle.std.proofs.lemmas.Grind.{common_steps}
use Rattle.ns_tree.specs.PlainOf.{un_of, bin_of, keys_of}
use Rattle.ns_tree.specs.laws.Nodes.{full_expr_out, operand_out, operation_out, implicit_out, alone_out, statements_out, key_expr_none, key_expr_some, block_none, block_some, keywords_out, tuple_out}
use Rattle.ns_static_rules.proofs.Inside.{block_and_inside, operand_faults, operation_faults, implicit_faults}
use Rattle.ns_static_rules.proofs.expressions.+expressions.Goals as goal

pub full_expr_faults-returns : goal.full_expr_faults-returns
full_expr_faults-returns t c = rw (full_expr_out c.args.expr.now) (grind (arith, common_steps))

pub key_expr_faults-returns-in-None : goal.key_expr_faults-returns-in-None
key_expr_faults-returns-in-None t c = rw (key_expr_none c.args.expr.now c.in-None.is) (grind (arith, common_steps))

pub key_expr_faults-returns-in_ok-bin_faults-in-Some : goal.key_expr_faults-returns-in_ok-bin_faults-in-Some
key_expr_faults-returns-in_ok-bin_faults-in-Some t c = rw (key_expr_some c.args.expr.now _ c.in-Some.is) (grind (arith, common_steps))

pub message_faults-returns-in-Keys : goal.message_faults-returns-in-Keys
message_faults-returns-in-Keys t c = rw (keywords_out c.args.message.now _ c.in-Keys.is) (grind (arith, common_steps))

pub statements_faults-returns : goal.statements_faults-returns
statements_faults-returns t c = rw (statements_out c.args.body.now) (grind (arith, common_steps))

pub block_faults-returns : goal.block_faults-returns
block_faults-returns t c = rw (block_and_inside c.args.scope.now c.args.block.now) (grind (arith, common_steps))

pub inside_faults-returns-in-None : goal.inside_faults-returns-in-None
inside_faults-returns-in-None t c = rw (block_none c.args.block.now c.in-None.is) (grind (arith, common_steps))

pub inside_faults-returns-in_ok-slots_faults-in-Some : goal.inside_faults-returns-in_ok-slots_faults-in-Some
inside_faults-returns-in_ok-slots_faults-in-Some t c = rw (block_some c.args.block.now _ c.in-Some.is) (grind (arith, common_steps))

pub primary_faults-returns-in-Tuple : goal.primary_faults-returns-in-Tuple
primary_faults-returns-in-Tuple t c = rw (tuple_out c.args.primary.now _ _ c.in-Tuple.is) (grind (arith, common_steps))

pub cascade_faults-loop-message-init : goal.cascade_faults-loop-message-init
cascade_faults-loop-message-init t c = refl

pub cascade_faults-loop-message-preserved : goal.cascade_faults-loop-message-preserved
cascade_faults-loop-message-preserved t c = grind (arith, common_steps)

pub cascade_faults-returns : goal.cascade_faults-returns
cascade_faults-returns t c = grind (arith, common_steps)

pub keys_faults-loop-key-init : goal.keys_faults-loop-key-init
keys_faults-loop-key-init t c = refl

pub keys_faults-loop-key-preserved : goal.keys_faults-loop-key-preserved
keys_faults-loop-key-preserved t c = grind (arith, common_steps)

pub keys_faults-returns : goal.keys_faults-returns
keys_faults-returns t c = grind (arith, common_steps)

pub opers_faults-loop-oper-init : goal.opers_faults-loop-oper-init
opers_faults-loop-oper-init t c = refl

pub opers_faults-loop-oper-preserved : goal.opers_faults-loop-oper-preserved
opers_faults-loop-oper-preserved t c = grind (arith, common_steps)

pub opers_faults-returns : goal.opers_faults-returns
opers_faults-returns t c = grind (arith, common_steps)

pub items_faults-loop-item-init : goal.items_faults-loop-item-init
items_faults-loop-item-init t c = refl

pub items_faults-loop-item-preserved : goal.items_faults-loop-item-preserved
items_faults-loop-item-preserved t c = grind (arith, common_steps)

pub items_faults-returns : goal.items_faults-returns
items_faults-returns t c = grind (arith, common_steps)

pub slots_faults-loop-slot-init : goal.slots_faults-loop-slot-init
slots_faults-loop-slot-init t c = refl

pub slots_faults-loop-slot-preserved : goal.slots_faults-loop-slot-preserved
slots_faults-loop-slot-preserved t c = grind (arith, common_steps)

pub slots_faults-returns : goal.slots_faults-returns
slots_faults-returns t c = grind (arith, common_steps)

pub list_faults-loop-statement-init : goal.list_faults-loop-statement-init
list_faults-loop-statement-init t c = refl

pub list_faults-loop-statement-preserved : goal.list_faults-loop-statement-preserved
list_faults-loop-statement-preserved t c = grind (arith, common_steps)

pub list_faults-returns : goal.list_faults-returns
list_faults-returns t c = grind (arith, common_steps)

pub expr_faults-returns-in-Operand : goal.expr_faults-returns-in-Operand
expr_faults-returns-in-Operand t c =
    rw (operand_out c.args.expr.now _ c.in-Operand.is) (rw (operand_faults c.args.scope.now (un_of c.in-Operand.operand)) c.un_faults.ensures)

pub expr_faults-returns-in-Operation : goal.expr_faults-returns-in-Operation
expr_faults-returns-in-Operation t c =
    rw (operation_out c.args.expr.now _ c.in-Operation.is)
    (rw (operation_faults c.args.scope.now (bin_of c.in-Operation.bin.value)) (rw c.deref.ensures at c.bin_faults.ensures))

pub expr_faults-returns-in-Implicit : goal.expr_faults-returns-in-Implicit
expr_faults-returns-in-Implicit t c =
    rw (implicit_out c.args.expr.now _ c.in-Implicit.is)
    (rw (implicit_faults c.args.scope.now (keys_of c.in-Implicit.keys.items)) (rw c.deref-in-Implicit.ensures.value at c.keywords_faults.ensures))

pub un_faults-returns-in-Alone : goal.un_faults-returns-in-Alone
un_faults-returns-in-Alone t c = rw (alone_out c.args.expr.now _ _ c.in-Alone.is) (grind (arith, common_steps))
