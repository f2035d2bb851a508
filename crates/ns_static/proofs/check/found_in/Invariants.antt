use Rattle.std.proofs.Common.{◌≡◌}
use Rattle.std.specs.Prelude.{map, zip}
use Rattle.ns_tree.specs.PlainOf.{unit_of}
use Rattle.ns_static.specs.Check.{faults_of}
use Rattle.ns_static_rules.specs.Keeping.{keep_all}
use Rattle.ns_static_rules.specs.Least.{faults_behind}
use Rattle.ns_static.proofs.check.found_in.Given as goal

abbrev pub invariant-loop-unit : goal.invariant-loop-unit
invariant-loop-unit l = keep_all l.kept (faults_behind l.before.names l.before.classes (zip (map unit_of l.unit-iterator.a.rest.now) l.unit-iterator.b.rest.now)) ≡ keep_all l.fn.kept (faults_of l.program)
