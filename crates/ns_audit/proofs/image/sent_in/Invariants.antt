use Rattle.std.proofs.Common.{◌≡◌, length, slice_get}
use Rattle.ns_audit.proofs.image.sent_in.Given as goal

abbrev pub invariant-instrs : goal.invariant-instrs
invariant-instrs l = slice_get l.left l.before ≡ slice_get l.body.instrs l.at

abbrev pub decreases-instrs : goal.decreases-instrs
decreases-instrs l = length l.left
