use Rattle.std.proofs.lemmas.List.Sorted.{searched}
use Rattle.ns_frozen_tables.proofs.Found.{nowhere}
use Rattle.ns_frozen_tables.proofs.numbers.place_of.Goals as goal

pub returns-in-Ok : goal.returns-in-Ok
returns-in-Ok c = rw c.in-Ok.is at (searched c.args.numbers.now c.args.number c.binary_search.result c.binary_search.ensures.position c.requires)

pub returns-in-Err : goal.returns-in-Err
returns-in-Err c =
    nowhere c.args.numbers.now c.args.number c.in-Err.field-0
    (rw c.in-Err.is at (searched c.args.numbers.now c.args.number c.binary_search.result c.binary_search.ensures.position c.requires))
