use Rattle.ns_kdata.specs.Arguments.{argument}
use Rattle.ns_kernel_rows.proofs.Outcomes.{limits_kept}
use Rattle.ns_kernel_rows.proofs.row.facet_reached.Goals as goal

pub returns-clause-limits : goal.returns-clause-limits
returns-clause-limits c =
    let args = c.args.args.now in
    limits_kept _ _ _ _ c.facet.ensures.world (c.rows_lead_on.ensures c.args.world.now.world c.args.code.now c.args.row (argument args 0) (argument args 1) c.args.board.now)
