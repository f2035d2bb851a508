use Rattle.ns_machine_plan.proofs.Outward.{far_and_near}
use Rattle.ns_machine_plan.proofs.outers.Outers.declaration_out.Goals as goal

pub returns : goal.returns
returns c = far_and_near c.args.code.now c.args.decl c.args.level c.far_steps-far.result c.out_from.result c.far_steps-far.ensures c.out_from.ensures
