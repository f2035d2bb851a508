use Rattle.std.proofs.Common.{◌≡◌, ◌+◌, length}
use Rattle.ns_audit.specs.Audit.{told_in}
use Rattle.ns_audit.proofs.audit.told_in.Given as goal

abbrev pub invariant-instrs : goal.invariant-instrs
invariant-instrs l =
    (l.at + length l.left ≡ length l.instrs)
    × (told_in l.code l.denied l.body l.at l.left ≡ told_in l.code l.denied l.body 0 l.instrs)

abbrev pub decreases-instrs : goal.decreases-instrs
decreases-instrs l = length l.left
