use Rattle.std.proofs.Common.{◌≡◌, ◌++◌, drop}
use Rattle.ns_tree.specs.PlainOf.{slots_of}
use Rattle.ns_resolved.specs.Classes as c
use Rattle.ns_gen_records.proofs.members.put_slots.Given as goal

abbrev pub invariant-loop-slot : goal.invariant-loop-slot
invariant-loop-slot l = l.all.items ++ c.slots_of (slots_of (drop l.slot-index l.slots)) ≡ l.fn.all.items ++ c.slots_of (slots_of l.slots)
