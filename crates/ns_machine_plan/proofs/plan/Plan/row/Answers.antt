use Rattle.std.proofs.Common.{arith, ap, length, ◌∙◌}
use Rattle.ns_machine_plan.proofs.Rows.{row_told, rows_length}
use Rattle.ns_machine_plan.proofs.plan.Plan.row.Goals as goal

pub bounds-as_slice-body : goal.bounds-as_slice-body
bounds-as_slice-body c = omega (arith, ap length c.as_slice.ensures, ap length c.requires.plan.bodies, rows_length 0 c.args.code.now.bodies, c.requires.there)

pub returns : goal.returns
returns c = row_told c.args.code.now c.as_slice.result.now c.args.body _ (c.as_slice.ensures ∙ c.requires.plan.bodies) c.requires.there
