use Rattle.std.proofs.Common.{◌<◌, length, arith}
use Rattle.ns_machine_plan.specs.Members.{AreMembersOf}
use Rattle.ns_machine_plan.proofs.Named.{zip_step}
use Rattle.ns_machine_plan.proofs.members.Privates.new.Goals as goal

pub classes-preserved : goal.classes-preserved
classes-preserved c =
    let within : c.classes.class-index < length c.as_slice-class-items.result.now = omega arith in
    zip_step (AreMembersOf c.args.code.now) c.args.code.now.classes c.classes.classes.items c.push.new.self.items c.classes.class-index c.class-item.result c.in_ok-members_of.field-0
    (rw c.as_slice-class-items.ensures at within) (rw c.as_slice-class-items.ensures at c.class-item.is) c.classes.invariant c.in_ok-members_of.ensures c.in_ok-push.ensures.items
