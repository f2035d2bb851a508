use Rattle.std.proofs.Common.{arith, refl}
use Rattle.std.proofs.lemmas.Grind.{common_steps}
use Rattle.ns_tree.specs.laws.Nodes.{side_out}
use Rattle.ns_print.proofs.Classes.{class_flat_some}
use Rattle.ns_print.proofs.declarations.+declarations.Goals as goal

pub put_side-returns : goal.put_side-returns
put_side-returns t c = rw (side_out c.args.side.now) (grind (arith, common_steps))

pub put_class-returns-in_ok-put-in-Some : goal.put_class-returns-in_ok-put-in-Some
put_class-returns-in_ok-put-in-Some t c = rw (class_flat_some c.args.class.now _ c.in-Some.is) (grind (arith, common_steps))

pub put_members-loop-member-init : goal.put_members-loop-member-init
put_members-loop-member-init t c = refl

pub put_members-loop-member-preserved : goal.put_members-loop-member-preserved
put_members-loop-member-preserved t c = grind (arith, common_steps)

pub put_members-returns : goal.put_members-returns
put_members-returns t c = grind (arith, common_steps)
