use Rattle.std.proofs.Common.{◌≡◌, ◌++◌}
use Rattle.ns_lib.specs.Sample.{class_line, lines_below}
use Rattle.ns_lib.proofs.sample.put_classes.Given as goal

-- The lines so far are written.
abbrev pub invariant-loop-k : goal.invariant-loop-k
invariant-loop-k l = l.text.items ≡ l.fn.text.items ++ lines_below class_line l.k
