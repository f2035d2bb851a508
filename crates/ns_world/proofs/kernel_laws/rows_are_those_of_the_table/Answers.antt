use Rattle.ns_world.proofs.KernelStanding.{standing}
use Rattle.ns_world.proofs.kernel_laws.rows_are_those_of_the_table.Goals as goal

pub returns : goal.returns
returns c = standing
