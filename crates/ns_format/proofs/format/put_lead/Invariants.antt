use Rattle.std.proofs.Common.{◌≡◌, ◌-◌, ◌≤◌, ◌++◌}
use Rattle.std.specs.Prelude.{replicate}
use Rattle.ns_format.proofs.format.put_lead.Given as goal

abbrev pub invariant-blanks : goal.invariant-blanks
invariant-blanks l = (l.out.items ≡ l.fn.out.items ++ replicate l.n 32) × (l.n ≤ l.lead)

abbrev pub decreases-blanks : goal.decreases-blanks
decreases-blanks l = l.lead - l.n
