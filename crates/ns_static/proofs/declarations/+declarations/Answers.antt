use Rattle.std.proofs.Common.{arith, refl}
use Rattle.std.proofs.lemmas.Grind.{common_steps}
use Rattle.ns_tree.specs.laws.Nodes.{side_out}
use Rattle.ns_static.proofs.ClassParts.{class_and_inside, class_inside_out}
use Rattle.ns_static.proofs.declarations.+declarations.Goals as goal

pub side_faults-returns : goal.side_faults-returns
side_faults-returns t c = rw (side_out c.args.side.now) (grind (arith, common_steps))

pub class_faults-returns : goal.class_faults-returns
class_faults-returns t c = rw (class_and_inside c.args.outer.now c.args.class.now) (grind (arith, common_steps))

pub class_inside_faults-returns : goal.class_inside_faults-returns
class_inside_faults-returns t c = rw (class_inside_out c.args.classes.now c.args.class.now) (grind (arith, common_steps))

pub members_faults-loop-member-init : goal.members_faults-loop-member-init
members_faults-loop-member-init t c = refl

pub members_faults-loop-member-preserved : goal.members_faults-loop-member-preserved
members_faults-loop-member-preserved t c = grind (arith, common_steps)

pub members_faults-returns : goal.members_faults-returns
members_faults-returns t c = grind (arith, common_steps)
