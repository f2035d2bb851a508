use Rattle.std.proofs.Common.{◌≡◌, ◌++◌, drop}
use Rattle.ns_verify.specs.Chains.{arounds_from}
use Rattle.ns_verify.proofs.tables.arounds_of.Given as goal

abbrev pub invariant-bodies : goal.invariant-bodies
invariant-bodies l =
    (l.number ≡ l.body-index)
    × (l.arounds.items ++ arounds_from l.number (drop l.body-index l.bodies) ≡ arounds_from 0 l.bodies)
