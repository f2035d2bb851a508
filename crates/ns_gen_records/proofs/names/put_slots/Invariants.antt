use Rattle.std.proofs.Common.{◌≡◌, map, drop}
use Rattle.ns_gen_records.specs.Naming.{with_names}
use Rattle.ns_gen_records.proofs.names.put_slots.Given as goal

abbrev pub invariant-loop-slot : goal.invariant-loop-slot
invariant-loop-slot l = with_names (map (λ slot. slot.name) (drop l.slot-index l.slots)) l.writer ≡ with_names (map (λ slot. slot.name) l.slots) l.fn.writer
