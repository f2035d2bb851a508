use Rattle.std.proofs.Common.{◌≡◌, ◌++◌, map, drop}
use Rattle.ns_resolved.specs.Tables.{method_code}
use Rattle.ns_gen_records.proofs.records.method_codes.Given as goal

abbrev pub invariant-loop-method : goal.invariant-loop-method
invariant-loop-method l = l.codes.items ++ map (method_code l.names) (drop l.method-index l.methods) ≡ map (method_code l.names) l.methods
