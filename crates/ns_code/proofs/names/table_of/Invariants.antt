use Rattle.std.proofs.Common.{◌≡◌, ◌++◌, drop}
use Rattle.ns_code.proofs.names.table_of.Given as goal

abbrev pub invariant-names : goal.invariant-names
invariant-names l = l.table ++ drop l.name-index l.names ≡ l.names
