use Rattle.std.proofs.Common.{◌≡◌, ◌+◌, length, drop}
use Rattle.ns_world.specs.Heap.{open_words_at}
use Rattle.ns_mirror.specs.Arrays.{listed}
use Rattle.ns_mirror.specs.Slots.{slot_symbols}
use Rattle.ns_mirror.proofs.slots.put_slots.Given as goal

abbrev pub invariant-slots : goal.invariant-slots
invariant-slots l = record {
  place : l.place ≡ l.at + l.slot-index;
  rest : listed l.world l.to l.place (slot_symbols (drop l.slot-index l.slots)) ≡ listed l.initial.world l.to l.at (slot_symbols l.slots);
  size : length (open_words_at l.world.world.cells l.to) ≡ length (open_words_at l.initial.world.world.cells l.to);
}
