use Rattle.std.proofs.Common.{◌≡◌, ◌++◌, [], drop}
use Rattle.std.specs.Prelude.{flat_map}
use Rattle.ns_sends.specs.Answered.{slot_texts}
use Rattle.ns_sends.specs.Texts.{put_texts}
use Rattle.ns_sends.proofs.answered.put_slots.Given as goal

abbrev pub invariant-slots : goal.invariant-slots
invariant-slots l = put_texts l.texts (flat_map (slot_texts l.code) (drop l.slot-index l.slots)) ≡ put_texts l.fn.texts (flat_map (slot_texts l.code) l.slots)
