use Rattle.std.proofs.Common.{◌≡◌, ◌++◌, drop, map}
use Rattle.ns_verify_members.specs.Numbers.{with_colon}
use Rattle.ns_verify_members.proofs.names.setters_in.Given as goal

abbrev pub invariant-names : goal.invariant-names
invariant-names l = l.found.items ++ map (with_colon l.fn.table) (drop l.name-index l.names) ≡ map (with_colon l.fn.table) l.names
