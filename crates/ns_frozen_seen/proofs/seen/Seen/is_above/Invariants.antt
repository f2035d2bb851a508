use Rattle.ns_frozen_seen.specs.Seen.{heap_of}
use Rattle.ns_frozen_seen.specs.Climbs.{Walks, holds}
use Rattle.ns_frozen_seen.proofs.seen.Seen.is_above.Given as goal

abbrev pub invariant-links : goal.invariant-links
invariant-links l = Walks l.self.code.now (heap_of l.self) l.class l.at (holds l.holder)

abbrev pub decreases-links : goal.decreases-links
decreases-links l = l.at
