use Rattle.std.proofs.Common.{arith}
use Rattle.std.proofs.lemmas.Grind.{common_steps}
use Rattle.ns_tree.specs.laws.Nodes.{key_expr_none, key_expr_some}
use Rattle.ns_static_rules.proofs.rules.key_expr_start.Goals as goal

pub returns-in-None : goal.returns-in-None
returns-in-None c = rw (key_expr_none c.args.expr.now c.in-None.is) (grind (arith, common_steps))

pub returns-in-Some : goal.returns-in-Some
returns-in-Some c = rw (key_expr_some c.args.expr.now _ c.in-Some.is) (grind (arith, common_steps))
