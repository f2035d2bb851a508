use Rattle.std.proofs.Common.{ℕ, ◌≡◌, Option, length, true, subst}
use Rattle.ns_frozen.specs.Live.{fits_environment}
use Rattle.ns_frozen_seen.specs.Seen.{heap_of}
use Rattle.ns_frozen_fitting.proofs.fitting.keep_outwards.Goals as goal

pub keep_one-requires-clause-fits : goal.keep_one-requires-clause-fits
keep_one-requires-clause-fits c =
    subst (λ (o : Option ℕ). fits_environment (length c.args.seen.now.code.now.bodies) c.args.seen.now.code.now (heap_of c.args.seen.now) o c.bodies.env ≡ true)
    c.in-Some.is c.bodies.invariant.1
