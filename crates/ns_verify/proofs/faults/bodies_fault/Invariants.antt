use Rattle.std.proofs.Common.{◌≡◌, drop}
use Rattle.ns_verify.specs.Verify.{bodies_fault}
use Rattle.ns_verify.proofs.faults.bodies_fault.Given as goal

abbrev pub invariant-bodies : goal.invariant-bodies
invariant-bodies l =
    (l.number ≡ l.body-index)
    × (bodies_fault l.code l.number (drop l.body-index l.code.bodies) ≡ bodies_fault l.code 0 l.code.bodies)
