use Rattle.std.proofs.Common.{arith}
use Rattle.std.proofs.lemmas.Grind.{common_steps}
use Rattle.ns_tree.specs.laws.Nodes.{class_out}
use Rattle.ns_scope.proofs.scope.ClassScope.of.Goals as goal

pub returns : goal.returns
returns c = rw (class_out c.args.class.now) (grind (arith, common_steps))
