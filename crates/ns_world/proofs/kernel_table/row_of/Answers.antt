use Rattle.std.proofs.Common.{arith}
use Rattle.ns_world.proofs.KernelPlaced.{row_here, row_past}
use Rattle.ns_world.proofs.kernel_table.row_of.Goals as goal

pub returns-then-number-lt81 : goal.returns-then-number-lt81
returns-then-number-lt81 c = row_here _ c.args.number _ c.table.ensures.lines (omega (arith, c.table.ensures.all, c.if-number-lt81.true))

pub returns : goal.returns
returns c = row_past c.args.number (omega (arith, c.if-number-lt81.false))
