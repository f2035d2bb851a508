use Rattle.std.proofs.Common.{◌≡◌}
use Rattle.ns_frozen_seen.specs.Keepers.{are_kept_at, up_to, IsChained}
use Rattle.ns_frozen_seen.specs.Seen.{heap_of}
use Rattle.ns_frozen_seen.proofs.seen.Seen.are_kept_at.Given as goal

abbrev pub invariant-classes : goal.invariant-classes
invariant-classes l =
    IsChained l.self.code.now (heap_of l.self) l.self.chains.numbers.items l.at
    × (are_kept_at l.self.code.now (heap_of l.self) l.self.chains.numbers.items l.number l.words l.at
    ≡ are_kept_at l.self.code.now (heap_of l.self) l.self.chains.numbers.items l.number l.words l.fn.from)

abbrev pub decreases-classes : goal.decreases-classes
decreases-classes l = up_to l.at
