use Rattle.std.proofs.Common.{◌≡◌, ◌++◌}
use Rattle.ns_lib.specs.Sample.{sum_line, lines_below}
use Rattle.ns_lib.proofs.sample.put_sums.Given as goal

-- The lines so far are written.
abbrev pub invariant-loop-k : goal.invariant-loop-k
invariant-loop-k l = l.text.items ≡ l.fn.text.items ++ lines_below sum_line l.k
