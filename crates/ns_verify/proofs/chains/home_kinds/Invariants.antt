use Rattle.std.proofs.Common.{◌≡◌, [], drop, length}
use Rattle.ns_verify.specs.Chains.{home_kinds_from}
use Rattle.ns_verify.proofs.chains.home_kinds.Given as goal

abbrev pub invariant-bodies : goal.invariant-bodies
invariant-bodies l =
    (length l.kinds.items ≡ l.body-index)
    × (home_kinds_from l.kinds.items (drop l.body-index l.bodies) ≡ home_kinds_from [] l.bodies)
