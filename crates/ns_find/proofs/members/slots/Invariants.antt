use Rattle.std.proofs.Common.{◌≡◌, drop}
use Rattle.ns_find.specs.Members.{search, slots_members}
use Rattle.ns_find.proofs.members.slots.Given as goal

abbrev pub invariant-slots : goal.invariant-slots
invariant-slots l =
    (l.entry ≡ l.one-index)
    × (search l.code l.asked.sel.0 l.asked.kind (slots_members l.world.world.cells l.code l.asked.wanted l.holder l.entry (drop l.one-index l.slots))
    ≡ search l.code l.asked.sel.0 l.asked.kind (slots_members l.world.world.cells l.code l.asked.wanted l.holder 0 l.slots))
