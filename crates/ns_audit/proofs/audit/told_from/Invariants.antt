use Rattle.std.proofs.Common.{◌≡◌, drop}
use Rattle.ns_audit.specs.Audit.{told_from}
use Rattle.ns_audit.proofs.audit.told_from.Given as goal

abbrev pub invariant-bodies : goal.invariant-bodies
invariant-bodies l =
    (l.number ≡ l.body-index)
    × (told_from l.code l.denied l.tops l.top l.number (drop l.body-index l.code.bodies)
    ≡ told_from l.code l.denied l.tops l.top 0 l.code.bodies)
