use Rattle.std.proofs.Common.{ℕ, Some}
use Rattle.ns_machine_plan.specs.Outers.{out_from}
use Rattle.ns_machine_plan.proofs.Outward.{one_kept}
use Rattle.ns_machine_plan.proofs.outers.Outers.new.Goals as goal

pub classes-preserved : goal.classes-preserved
classes-preserved c =
    one_kept (λ (number : ℕ). out_from c.args.code.now (Some number) 16) c.classes.far.items c.push.new.self.items c.classes.number c.out_from.result
    c.classes.invariant.0 c.classes.invariant.1 c.out_from.ensures c.in_ok-push.ensures.items
