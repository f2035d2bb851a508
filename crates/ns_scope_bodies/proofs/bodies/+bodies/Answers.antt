use Rattle.std.proofs.Common.{arith, refl}
use Rattle.std.proofs.lemmas.Grind.{common_steps}
use Rattle.ns_tree.specs.laws.Nodes.{side_out}
use Rattle.ns_scope_bodies.proofs.Inside.{class_and_inside, own_and_nested}
use Rattle.ns_scope_bodies.proofs.bodies.+bodies.Goals as goal

pub put_class-returns : goal.put_class-returns
put_class-returns t c = rw (class_and_inside c.args.outer.now c.args.class.now) (grind (arith, common_steps))

pub put_inside-returns : goal.put_inside-returns
put_inside-returns t c = rw (own_and_nested c.args.classes.now c.args.class.now) (grind (arith, common_steps))

pub put_nested-returns : goal.put_nested-returns
put_nested-returns t c = rw (side_out c.args.side.now) (grind (arith, common_steps))

pub put_members-loop-member-init : goal.put_members-loop-member-init
put_members-loop-member-init t c = refl

pub put_members-loop-member-preserved : goal.put_members-loop-member-preserved
put_members-loop-member-preserved t c = grind (arith, common_steps)

pub put_members-returns : goal.put_members-returns
put_members-returns t c = grind (arith, common_steps)
