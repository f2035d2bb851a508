use Rattle.std.proofs.Common.{◌≡◌, ◌++◌, map, drop}
use Rattle.ns_resolved.specs.Tables.{nested_code}
use Rattle.ns_gen_records.proofs.records.nested_codes.Given as goal

abbrev pub invariant-loop-class : goal.invariant-loop-class
invariant-loop-class l = l.codes.items ++ map (nested_code) (drop l.class-index l.nested) ≡ map (nested_code) l.nested
