use Rattle.std.proofs.Common.{◌≡◌, ◌+◌, length, drop}
use Rattle.ns_world.specs.Heap.{open_words_at}
use Rattle.ns_mirror.specs.Arrays.{listed}
use Rattle.ns_mirror.specs.Selectors.{public_selectors}
use Rattle.ns_mirror.proofs.selectors.put_selectors.Given as goal

abbrev pub invariant-methods : goal.invariant-methods
invariant-methods l = record {
  rest : listed l.world l.to l.at (public_selectors (drop l.method-index l.methods)) ≡ listed l.initial.world l.to 0 (public_selectors l.methods);
  count : l.at + length (public_selectors (drop l.method-index l.methods)) ≡ length (public_selectors l.methods);
  size : length (open_words_at l.world.world.cells l.to) ≡ length (open_words_at l.initial.world.world.cells l.to);
}
