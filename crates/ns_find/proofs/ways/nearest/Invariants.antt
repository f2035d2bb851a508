use Rattle.std.proofs.Common.{◌≤◌}
use Rattle.ns_find.proofs.ways.nearest.Given as goal

abbrev pub invariant-inward : goal.invariant-inward
invariant-inward l = l.shorter ≤ l.levels

abbrev pub decreases-inward : goal.decreases-inward
decreases-inward l = l.shorter
