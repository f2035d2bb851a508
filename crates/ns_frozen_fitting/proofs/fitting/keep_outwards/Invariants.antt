use Rattle.std.proofs.Common.{◌≡◌, length, true}
use Rattle.ns_frozen.specs.Live.{fits_environment}
use Rattle.ns_frozen_seen.specs.Fitting.{AreFitting}
use Rattle.ns_frozen_seen.specs.Seen.{heap_of}
use Rattle.ns_frozen_fitting.proofs.fitting.keep_outwards.Given as goal

abbrev pub invariant-bodies : goal.invariant-bodies
invariant-bodies l =
    AreFitting l.seen.code.now (heap_of l.seen) l.seen.numbers l.kept.items
    × (fits_environment (length l.seen.code.now.bodies) l.seen.code.now (heap_of l.seen) l.body l.env ≡ true)
