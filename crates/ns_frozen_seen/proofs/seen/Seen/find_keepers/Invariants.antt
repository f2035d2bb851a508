use Rattle.std.proofs.Common.{◌≡◌, length}
use Rattle.ns_frozen_seen.specs.Seen.{IsSeen}
use Rattle.ns_frozen_seen.proofs.seen.Seen.find_keepers.Given as goal

abbrev pub invariant-classes : goal.invariant-classes
invariant-classes l =
    IsSeen l.self
    × (length l.self.keepers.items ≡ l.place)
    × (l.count ≡ length l.self.chains.numbers.items)
    × (l.self.code ≡ l.fn.self.code)
    × (l.self.cells ≡ l.fn.self.cells)
