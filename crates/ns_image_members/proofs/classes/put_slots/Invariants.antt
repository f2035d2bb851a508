use Rattle.std.proofs.Common.{◌≡◌, drop}
use Rattle.std.specs.Prelude.{flat_map}
use Rattle.ns_image_list.specs.Output.{after}
use Rattle.ns_image_members.specs.Members.{slot_line}
use Rattle.ns_image_members.proofs.classes.put_slots.Given as goal

abbrev pub invariant-slots : goal.invariant-slots
invariant-slots l = after l.out (flat_map (slot_line l.source) (drop l.slot-index l.slots)) ≡ after l.fn.out (flat_map (slot_line l.source) l.slots)
