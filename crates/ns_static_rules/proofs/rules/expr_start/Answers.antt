use Rattle.std.proofs.Common.{arith}
use Rattle.std.proofs.lemmas.Grind.{common_steps}
use Rattle.ns_tree.specs.laws.Nodes.{operation_out, implicit_out}
use Rattle.ns_static_rules.proofs.rules.expr_start.Goals as goal

pub returns-in-Operation : goal.returns-in-Operation
returns-in-Operation c = rw (operation_out c.args.expr.now _ c.in-Operation.is) (grind (arith, common_steps))

pub returns-in-Implicit : goal.returns-in-Implicit
returns-in-Implicit c = rw (implicit_out c.args.expr.now _ c.in-Implicit.is) (grind (arith, common_steps))
