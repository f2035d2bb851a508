use Rattle.std.proofs.Common.{arith}
use Rattle.std.proofs.lemmas.Grind.{common_steps}
use Rattle.ns_tree.specs.laws.Nodes.{full_expr_out, operand_out, operation_out, implicit_out, alone_out, statements_out, key_expr_none, key_expr_some, block_none, block_some, keywords_out, tuple_out}
use Rattle.ns_gen_draft.proofs.counting.+counting.Goals as goal

pub count_full_expr-returns : goal.count_full_expr-returns
count_full_expr-returns t c = rw (full_expr_out c.args.expr.now) (grind (arith, common_steps))

pub count_key_expr-returns-in-None : goal.count_key_expr-returns-in-None
count_key_expr-returns-in-None t c = rw (key_expr_none c.args.expr.now c.in-None.is) (grind (arith, common_steps))

pub count_key_expr-returns-in_ok-count_bin-in-Some : goal.count_key_expr-returns-in_ok-count_bin-in-Some
count_key_expr-returns-in_ok-count_bin-in-Some t c = rw (key_expr_some c.args.expr.now _ c.in-Some.is) (grind (arith, common_steps))

pub count_message-returns-in-Keys : goal.count_message-returns-in-Keys
count_message-returns-in-Keys t c = rw (keywords_out c.args.message.now _ c.in-Keys.is) (grind (arith, common_steps))

pub count_primary-returns-in-Tuple : goal.count_primary-returns-in-Tuple
count_primary-returns-in-Tuple t c = rw (tuple_out c.args.primary.now _ _ c.in-Tuple.is) (grind (arith, common_steps))

pub count_statements-returns : goal.count_statements-returns
count_statements-returns t c = rw (statements_out c.args.body.now) (grind (arith, common_steps))

pub count_inside-returns-in-None : goal.count_inside-returns-in-None
count_inside-returns-in-None t c = rw (block_none c.args.block.now c.in-None.is) (grind (arith, common_steps))

pub count_inside-returns-in_ok-count_slots-in-Some : goal.count_inside-returns-in_ok-count_slots-in-Some
count_inside-returns-in_ok-count_slots-in-Some t c = rw (block_some c.args.block.now _ c.in-Some.is) (grind (arith, common_steps))

pub count_expr-returns-in-Operand : goal.count_expr-returns-in-Operand
count_expr-returns-in-Operand t c = rw (operand_out c.args.expr.now _ c.in-Operand.is) (grind (arith, common_steps))

pub count_expr-returns-in-Operation : goal.count_expr-returns-in-Operation
count_expr-returns-in-Operation t c = rw (operation_out c.args.expr.now _ c.in-Operation.is) (grind (arith, common_steps))

pub count_expr-returns-in-Implicit : goal.count_expr-returns-in-Implicit
count_expr-returns-in-Implicit t c = rw (implicit_out c.args.expr.now _ c.in-Implicit.is) (grind (arith, common_steps))

pub count_un-returns-in-Alone : goal.count_un-returns-in-Alone
count_un-returns-in-Alone t c = rw (alone_out c.args.expr.now _ _ c.in-Alone.is) (grind (arith, common_steps))
