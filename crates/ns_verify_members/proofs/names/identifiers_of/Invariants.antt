use Rattle.std.proofs.Common.{◌≡◌, ◌++◌, drop, map}
use Rattle.ns_base.specs.Spelling.{is_identifier}
use Rattle.ns_verify_members.proofs.names.identifiers_of.Given as goal

abbrev pub invariant-names : goal.invariant-names
invariant-names l = l.found.items ++ map is_identifier (drop l.name-index l.names) ≡ map is_identifier l.names
