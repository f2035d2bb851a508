use Rattle.std.proofs.Common.{◌≡◌, ◌++◌, drop, None}
use Rattle.ns_static_rules.specs.Least.{order_of}
use Rattle.ns_static_all.specs.InOrder.{once_behind}
use Rattle.ns_static_all.proofs.all.each_once.Given as goal

abbrev pub invariant-faults : goal.invariant-faults
invariant-faults l = l.told.items ++ once_behind order_of l.last (drop l.fault-index l.faults) ≡ once_behind order_of None l.faults
