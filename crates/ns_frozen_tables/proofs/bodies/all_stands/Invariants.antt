use Rattle.std.proofs.Common.{◌≡◌, map, take}
use Rattle.ns_frozen_tables.specs.Stands.{stands_of}
use Rattle.ns_frozen_tables.proofs.bodies.all_stands.Given as goal

abbrev pub invariant-bodies : goal.invariant-bodies
invariant-bodies l = (l.number ≡ l.body-index) × (l.all.items ≡ map stands_of (take l.body-index l.code.bodies))
