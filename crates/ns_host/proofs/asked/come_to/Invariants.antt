use Rattle.std.proofs.Common.{◌≡◌, ◌+◌, drop}
use Rattle.std.specs.Prelude.{sum}
use Rattle.ns_host.proofs.asked.come_to.Given as goal

-- What all lengths come to and what the others do differ as the whole and what is left of it.
abbrev pub invariant-loop-length : goal.invariant-loop-length
invariant-loop-length l = sum l.lengths + l.left ≡ sum (drop l.length-index l.lengths) + l.whole
