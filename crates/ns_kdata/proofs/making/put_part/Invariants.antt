use Rattle.std.proofs.Common.{◌≡◌, ◌+◌, length, drop}
use Rattle.ns_world.specs.Heap.{bytes_at}
use Rattle.ns_kdata.specs.Arguments.{bytes_of}
use Rattle.ns_kdata.specs.Texts.{filled, bytes_in}
use Rattle.ns_kdata.proofs.making.put_part.Given as goal

abbrev pub invariant-bytes : goal.invariant-bytes
invariant-bytes l = record {
  rest : filled l.world l.to (l.at + l.place) (drop l.place (bytes_in (bytes_of l.initial.world.world.cells l.from) l.part)) ≡ filled l.initial.world l.to l.at (bytes_in (bytes_of l.initial.world.world.cells l.from) l.part);
  size : length (bytes_at l.world.world.cells l.to) ≡ length (bytes_at l.initial.world.world.cells l.to);
  same : bytes_of l.world.world.cells l.from ≡ bytes_of l.initial.world.world.cells l.from;
}
