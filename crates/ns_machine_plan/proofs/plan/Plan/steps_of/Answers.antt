use Rattle.std.proofs.Common.{arith, ap, length}
use Rattle.ns_machine_plan.proofs.Kept.{lists_of_bodies, steps_kept}
use Rattle.ns_machine_plan.proofs.plan.Plan.steps_of.Goals as goal

pub of_body-requires : goal.of_body-requires
of_body-requires c = omega (arith, c.requires.there, ap length c.requires.plan.steps, lists_of_bodies c.args.code.now 0 c.args.code.now.bodies)

pub returns : goal.returns
returns c = steps_kept c.args.code.now c.args.self.now c.args.body c.of_body.result c.requires.plan c.of_body.ensures.there c.of_body.ensures.steps
