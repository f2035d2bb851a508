use Rattle.std.proofs.Common.{◌≡◌, ◌+◌, drop, length}
use Rattle.ns_static_rules.specs.Faults.{classes_found}
use Rattle.ns_static_rules.specs.Walk.{with_found}
use Rattle.ns_static.proofs.counting.classes_found.Given as goal

abbrev pub invariant-loop-at : goal.invariant-loop-at
invariant-loop-at l = record {
  found : with_found l.checker (classes_found l.before (drop l.at-index l.names)) ≡ with_found l.fn.checker (classes_found l.fn.before l.names);
  counted : l.before + length (drop l.at-index l.names) ≡ l.fn.before + length l.names;
}
