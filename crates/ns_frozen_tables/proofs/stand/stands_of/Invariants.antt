use Rattle.std.proofs.Common.{length}
use Rattle.ns_frozen_tables.proofs.Stands.{Passed}
use Rattle.ns_frozen_tables.proofs.stand.stands_of.Given as goal

abbrev pub invariant-instrs : goal.invariant-instrs
invariant-instrs l = Passed l.body l.at l.pass l.left l.stands.items

abbrev pub decreases-instrs : goal.decreases-instrs
decreases-instrs l = length l.left
