use Rattle.std.proofs.Common.{◌≡◌, ◌++◌, drop}
use Rattle.ns_machine_plan.specs.Members.{all_slot_entries}
use Rattle.ns_machine_plan.proofs.members.add_slots.Given as goal

abbrev pub invariant-slots : goal.invariant-slots
invariant-slots l =
    (l.entry ≡ l.slot-index)
    × (l.found.items ++ all_slot_entries l.code.names l.entry (drop l.slot-index l.slots) ≡ l.fn.found.items ++ all_slot_entries l.code.names 0 l.slots)
