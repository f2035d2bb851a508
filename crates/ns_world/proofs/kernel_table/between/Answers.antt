use Rattle.ns_world.proofs.KernelPlaced.{lines_between}
use Rattle.ns_world.proofs.kernel_table.between.Goals as goal

pub returns-clause-rows : goal.returns-clause-rows
returns-clause-rows c = lines_between _ c.args.first c.args.end c.table.ensures.lines
