use Rattle.std.proofs.Common.{◌≡◌, flat_map, drop}
use Rattle.ns_resolved.specs.Tables.{class_names}
use Rattle.ns_gen_records.specs.Naming.{with_names}
use Rattle.ns_gen_records.proofs.names.put_names.Given as goal

abbrev pub invariant-loop-class : goal.invariant-loop-class
invariant-loop-class l = with_names (flat_map class_names (drop l.class-index l.classes)) l.writer ≡ with_names (flat_map class_names l.classes) l.fn.writer
