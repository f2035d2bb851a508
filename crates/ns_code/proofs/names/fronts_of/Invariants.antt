use Rattle.std.proofs.Common.{◌≡◌, ◌++◌, drop, map}
use Rattle.ns_code.specs.Fronts.{front_in}
use Rattle.ns_code.proofs.names.fronts_of.Given as goal

abbrev pub invariant-names : goal.invariant-names
invariant-names l = l.fronts.items ++ map (front_in l.table) (drop l.name-index l.names) ≡ map (front_in l.table) l.names
