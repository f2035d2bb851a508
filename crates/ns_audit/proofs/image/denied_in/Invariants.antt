use Rattle.std.proofs.Common.{◌≡◌, ◌++◌, drop}
use Rattle.ns_audit.specs.Image.{denied_in}
use Rattle.ns_audit.proofs.image.denied_in.Given as goal

abbrev pub invariant-texts : goal.invariant-texts
invariant-texts l = l.sels.items ++ denied_in l.code (drop l.text-index l.texts) ≡ denied_in l.code l.texts
