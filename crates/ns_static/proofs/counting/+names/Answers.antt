use Rattle.std.proofs.Common.{arith, refl}
use Rattle.std.proofs.lemmas.Grind.{common_steps}
use Rattle.ns_tree.specs.laws.Nodes.{side_out}
use Rattle.ns_static.proofs.counting.+names.Goals as goal

pub side_names-returns : goal.side_names-returns
side_names-returns t c = rw (side_out c.args.side.now) (grind (arith, common_steps))

pub members_names-loop-member-init : goal.members_names-loop-member-init
members_names-loop-member-init t c = refl

pub members_names-loop-member-preserved : goal.members_names-loop-member-preserved
members_names-loop-member-preserved t c = grind (arith, common_steps)

pub members_names-returns : goal.members_names-returns
members_names-returns t c = grind (arith, common_steps)
