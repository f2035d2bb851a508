use Rattle.ns_kdata.specs.laws.Filled.{filled_keeps}
use Rattle.ns_kdata.proofs.laws.filled_cells_keep_lawful.Goals as goal

pub returns : goal.returns
returns c = filled_keeps
