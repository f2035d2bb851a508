use Rattle.std.proofs.Common.{◌≡◌, drop, length}
use Rattle.ns_find.specs.Passed.{without}
use Rattle.ns_find.proofs.passing.stop_at.Given as goal

abbrev pub invariant-listed : goal.invariant-listed
invariant-listed l = (without l.passed (drop l.one-index l.listed) ≡ without l.fn.passed l.listed) × (length l.passed ≡ length l.fn.passed)
