use Rattle.std.proofs.Common.{arith}
use Rattle.std.proofs.lemmas.Grind.{common_steps}
use Rattle.ns_tree.specs.laws.Nodes.{full_expr_out}
use Rattle.ns_static_rules.proofs.rules.full_expr_start.Goals as goal

pub returns-in-empty : goal.returns-in-empty
returns-in-empty c = rw (full_expr_out c.args.expr.now) (grind (arith, common_steps))

pub returns-in-len1-up : goal.returns-in-len1-up
returns-in-len1-up c = rw (full_expr_out c.args.expr.now) (grind (arith, common_steps))
