use Rattle.std.proofs.Common.{get_or}
use Rattle.ns_frozen_seen.specs.Climbs.{Walks, holds}
use Rattle.ns_frozen_seen.specs.Seen.{heap_of}
use Rattle.ns_frozen_seen.proofs.seen.Seen.climbed_from.Given as goal

abbrev pub invariant-classes : goal.invariant-classes
invariant-classes l =
    Walks l.self.code.now (heap_of l.self) (get_or l.self.chains.numbers.items l.fn.from 0) (get_or l.self.chains.numbers.items l.place 0) (holds l.holder)

abbrev pub decreases-classes : goal.decreases-classes
decreases-classes l = l.place
