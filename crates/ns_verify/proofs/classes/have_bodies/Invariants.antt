use Rattle.std.proofs.Common.{◌≡◌, drop}
use Rattle.ns_code.specs.Soundness.{have_bodies}
use Rattle.ns_verify.proofs.classes.have_bodies.Given as goal

abbrev pub invariant-methods : goal.invariant-methods
invariant-methods l = have_bodies l.code l.side l.number (drop l.method-index l.methods) ≡ have_bodies l.code l.side l.number l.methods
