use Rattle.std.proofs.Common.{arith}
use Rattle.std.proofs.lemmas.Grind.{common_steps}
use Rattle.ns_tree.specs.laws.Nodes.{side_out}
use Rattle.ns_scope.proofs.names.put_side_members.Goals as goal

pub returns : goal.returns
returns c = rw (side_out c.args.side.now) (grind (arith, common_steps))
