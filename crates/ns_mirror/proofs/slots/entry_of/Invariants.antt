use Rattle.std.proofs.Common.{◌≡◌, drop}
use Rattle.ns_mirror.specs.Slots.{entry_of}
use Rattle.ns_mirror.proofs.slots.entry_of.Given as goal

abbrev pub invariant-slots : goal.invariant-slots
invariant-slots l =
    (l.number ≡ l.slot-index)
    × (entry_of (drop l.slot-index l.slots) l.sel l.number ≡ entry_of l.slots l.sel 0)
