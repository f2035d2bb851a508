use Rattle.std.proofs.Common.{◌≡◌, drop, not}
use Rattle.std.specs.List.{list_any}
use Rattle.ns_code.specs.declared.class.SlotCode.{SlotCode}
use Rattle.ns_code.specs.Soundness.{is_identifier_name}
use Rattle.ns_verify.proofs.classes.has_bad_slot.Given as goal

abbrev pub invariant-slots : goal.invariant-slots
invariant-slots l =
    list_any (λ (slot : SlotCode). not (is_identifier_name l.code slot.name)) (drop l.slot-index l.slots)
    ≡ list_any (λ (slot : SlotCode). not (is_identifier_name l.code slot.name)) l.slots
