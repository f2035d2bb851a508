use Rattle.std.proofs.Common.{arith}
use Rattle.std.proofs.lemmas.Grind.{common_steps}
use Rattle.ns_tree.specs.laws.Nodes.{class_out}
use Rattle.ns_static.proofs.classes.class_scope.Goals as goal

pub returns-clause-found : goal.returns-clause-found
returns-clause-found c = rw (class_out c.args.class.now) (grind (arith, common_steps))

pub returns-clause-scope : goal.returns-clause-scope
returns-clause-scope c = rw (class_out c.args.class.now) (grind (arith, common_steps))
