use Rattle.std.proofs.Common.{◌≡◌, ◌≤◌, drop, length}
use Rattle.ns_gen_draft.specs.Standing.{standing}
use Rattle.ns_gen_exprs.specs.Setting.{with_sets}
use Rattle.ns_gen_exprs.proofs.sets.put_sets.Given as goal

abbrev pub decreases-names : goal.decreases-names
decreases-names l = l.left

abbrev pub invariant-names : goal.invariant-names
invariant-names l = (l.left ≤ length l.names) × (l.writer ≡ with_sets (standing l.here) (drop l.left l.names) l.fn.writer)
