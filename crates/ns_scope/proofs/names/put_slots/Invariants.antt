use Rattle.std.proofs.Common.{◌≡◌, ◌++◌, length, drop}
use Rattle.ns_tree.specs.PlainOf.{slots_of}
use Rattle.ns_scope.specs.Names.{numbered, slot_settings}
use Rattle.ns_scope.proofs.names.put_slots.Given as goal

abbrev pub invariant-loop-slot : goal.invariant-loop-slot
invariant-loop-slot l = l.all.items ++ numbered (length l.all.items) (slot_settings (slots_of (drop l.slot-index l.slots))) ≡ l.fn.all.items ++ numbered (length l.fn.all.items) (slot_settings (slots_of l.slots))
