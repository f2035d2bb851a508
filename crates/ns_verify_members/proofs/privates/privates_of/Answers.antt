use Rattle.std.proofs.Common.{arith}
use Rattle.ns_verify_members.specs.Numbers.{IsPrivatesOf}
use Rattle.ns_verify_members.proofs.Added.{zip_step}
use Rattle.ns_verify_members.proofs.privates.privates_of.Goals as goal

pub classes-preserved : goal.classes-preserved
classes-preserved c =
    zip_step (IsPrivatesOf c.args.code.now) c.args.classes.now c.classes.all.items c.push.new.self.items c.classes.class-index c.class-item.result c.in_ok-of.field-0
    (omega arith) c.class-item.is c.classes.invariant c.in_ok-of.ensures c.in_ok-push.ensures.items
