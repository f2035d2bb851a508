use Rattle.std.proofs.Common.{◌≡◌, ◌++◌, map, drop}
use Rattle.ns_resolved.specs.Tables.{slot_code}
use Rattle.ns_gen_records.proofs.records.slot_codes.Given as goal

abbrev pub invariant-loop-slot : goal.invariant-loop-slot
invariant-loop-slot l = l.codes.items ++ map (slot_code l.names) (drop l.slot-index l.slots) ≡ map (slot_code l.names) l.slots
