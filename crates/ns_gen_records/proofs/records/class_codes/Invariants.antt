use Rattle.std.proofs.Common.{◌≡◌, ◌++◌, map, drop}
use Rattle.ns_resolved.specs.Tables.{class_code}
use Rattle.ns_gen_records.proofs.records.class_codes.Given as goal

abbrev pub invariant-loop-class : goal.invariant-loop-class
invariant-loop-class l = l.codes.items ++ map (class_code l.names) (drop l.class-index l.classes) ≡ map (class_code l.names) l.classes
