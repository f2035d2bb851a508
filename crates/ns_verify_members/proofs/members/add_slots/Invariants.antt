use Rattle.std.proofs.Common.{◌≡◌, ◌++◌, drop}
use Rattle.ns_verify_members.specs.Numbers.{all_slot_numbers}
use Rattle.ns_verify_members.proofs.members.add_slots.Given as goal

abbrev pub invariant-slots : goal.invariant-slots
invariant-slots l = l.found.items ++ all_slot_numbers l.code.names (drop l.slot-index l.slots) ≡ l.fn.found.items ++ all_slot_numbers l.code.names l.slots
