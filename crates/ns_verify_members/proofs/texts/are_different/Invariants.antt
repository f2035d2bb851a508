use Rattle.std.proofs.Common.{◌≡◌, drop}
use Rattle.ns_code.specs.Soundness.{are_different}
use Rattle.ns_verify_members.proofs.Different.{are_new}
use Rattle.ns_verify_members.proofs.texts.are_different.Given as goal

abbrev pub invariant-texts : goal.invariant-texts
invariant-texts l = are_new l.seen (drop l.text-index l.texts) ≡ are_different l.texts
