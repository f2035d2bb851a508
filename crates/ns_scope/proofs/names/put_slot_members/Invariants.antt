use Rattle.std.proofs.Common.{◌≡◌, ◌++◌, drop}
use Rattle.ns_tree.specs.PlainOf.{slots_of}
use Rattle.ns_scope.specs.Names.{slot_members}
use Rattle.ns_scope.proofs.names.put_slot_members.Given as goal

abbrev pub invariant-loop-slot : goal.invariant-loop-slot
invariant-loop-slot l = l.all.items ++ slot_members (slots_of (drop l.slot-index l.slots)) ≡ l.fn.all.items ++ slot_members (slots_of l.slots)
