use Rattle.ns_world.specs.laws.Lasting.{shape_lasts}
use Rattle.ns_world.proofs.Lasting.{there_lasts, bytes_last, start_lasts, name_lasts}
use Rattle.ns_world.proofs.later.cells_stay.Goals as goal

pub returns-clause-there : goal.returns-clause-there
returns-clause-there c = there_lasts

pub returns-clause-shapes : goal.returns-clause-shapes
returns-clause-shapes c = shape_lasts

pub returns-clause-texts : goal.returns-clause-texts
returns-clause-texts c = bytes_last

pub returns-clause-starts : goal.returns-clause-starts
returns-clause-starts c = start_lasts

pub returns-clause-names : goal.returns-clause-names
returns-clause-names c = name_lasts
