use Rattle.std.proofs.Common.{arith}
use Rattle.ns_find.proofs.RowSearch.{rows_here, rows_past}
use Rattle.ns_find.proofs.kernel.found_among.Goals as goal

pub returns-in-Some : goal.returns-in-Some
returns-in-Some c =
    rows_here c.args.world.now.world.cells c.args.code.now c.args.sel.0 c.args.kind c.lines.number c.lines.line-index c.args.rows.lines.now _ _ c.in-Some.found (omega arith) c.lines.invariant.1 c.in-Some.ensures

pub lines-preserved : goal.lines-preserved
lines-preserved c =
    (omega arith, rows_past c.args.world.now.world.cells c.args.code.now c.args.sel.0 c.args.kind c.lines.number c.lines.line-index c.args.rows.lines.now _ _ (omega arith) c.lines.invariant.1 c.in-None.ensures)
