use Rattle.std.proofs.Common.{◌≡◌, ◌+◌, [], ◌∷◌, ◌++◌, length, drop}
use Rattle.ns_world.specs.Heap.{bytes_at}
use Rattle.ns_kdata.specs.Arguments.{bytes_of}
use Rattle.ns_kdata.specs.Texts.{filled}
use Rattle.ns_base.specs.Quoted.{doubled, quoted}
use Rattle.ns_kdata.proofs.making.put_quoted.Given as goal

abbrev pub invariant-bytes : goal.invariant-bytes
invariant-bytes l = record {
  rest : filled l.world l.to l.at (doubled (drop l.place (bytes_of l.fn.world.world.cells l.text)) ++ 39 ∷ []) ≡ filled l.fn.world l.to 0 (quoted (bytes_of l.fn.world.world.cells l.text));
  count : l.at + (length (doubled (drop l.place (bytes_of l.fn.world.world.cells l.text))) + 1) ≡ length (quoted (bytes_of l.fn.world.world.cells l.text));
  size : length (bytes_at l.world.world.cells l.to) ≡ length (bytes_at l.fn.world.world.cells l.to);
  same : bytes_of l.world.world.cells l.text ≡ bytes_of l.fn.world.world.cells l.text;
}
