use Rattle.std.proofs.Common.{◌≡◌, ◌-◌}
use Rattle.ns_frozen.specs.Live.{fits_environment}
use Rattle.ns_frozen_seen.specs.Seen.{heap_of}
use Rattle.ns_frozen_fitting.proofs.environments.fits_environment.Given as goal

abbrev pub invariant-bodies : goal.invariant-bodies
invariant-bodies l =
    fits_environment (l.depth - l.done) l.seen.code.now (heap_of l.seen) l.body l.env ≡ fits_environment l.depth l.seen.code.now (heap_of l.seen) l.fn.body l.fn.env
