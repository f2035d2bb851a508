use Rattle.ns_test.proofs.Counts.{order_counts_nothing}
use Rattle.ns_test.proofs.laws.tests_are_told_alone.Goals as goal

pub returns-clause-order : goal.returns-clause-order
returns-clause-order c code limits = order_counts_nothing code limits
