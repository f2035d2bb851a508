use Rattle.std.proofs.Common.{arith}
use Rattle.std.proofs.lemmas.Grind.{common_steps}
use Rattle.ns_tree.specs.laws.Nodes.{side_out}
use Rattle.ns_scope_bodies.proofs.bodies.put_side.Goals as goal

pub returns : goal.returns
returns c = rw (side_out c.args.members.now) (grind (arith, common_steps))
