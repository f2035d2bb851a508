use Rattle.std.proofs.Common.{◌≡◌, ◌++◌, drop, map}
use Rattle.ns_machine_plan.specs.Spelled.{spelled_by_text}
use Rattle.ns_machine_plan.proofs.spelled.rows_of.Given as goal

abbrev pub invariant-names : goal.invariant-names
invariant-names l = l.rows.items ++ map spelled_by_text (drop l.name-index l.names) ≡ map spelled_by_text l.names
