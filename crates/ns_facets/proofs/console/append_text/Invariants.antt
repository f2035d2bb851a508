use Rattle.std.proofs.Common.{◌≡◌, ◌+◌, ◌*◌, ◌≤◌, length, drop}
use Rattle.ns_kdata.specs.Arguments.{bytes_of}
use Rattle.ns_facets.specs.Console.{appended}
use Rattle.ns_facets.proofs.console.append_text.Given as goal

abbrev pub invariant-rows : goal.invariant-rows
invariant-rows l = record {
  rest : appended l.world (drop (8 * l.row) (bytes_of l.fn.world.world.cells l.text)) ≡ appended l.fn.world (bytes_of l.fn.world.world.cells l.text);
  same : bytes_of l.world.world.cells l.text ≡ bytes_of l.fn.world.world.cells l.text;
  fits : length l.world.world.output + length (drop (8 * l.row) (bytes_of l.fn.world.world.cells l.text)) ≤ l.world.world.limits.out;
  room : l.world.world.limits.out ≤ l.world.out_room;
}

abbrev pub invariant-bytes : goal.invariant-bytes
invariant-bytes l = record {
  rest : appended l.world (drop l.place (bytes_of l.fn.world.world.cells l.text)) ≡ appended l.fn.world (bytes_of l.fn.world.world.cells l.text);
  same : bytes_of l.world.world.cells l.text ≡ bytes_of l.fn.world.world.cells l.text;
  fits : length l.world.world.output + length (drop l.place (bytes_of l.fn.world.world.cells l.text)) ≤ l.world.world.limits.out;
  room : l.world.world.limits.out ≤ l.world.out_room;
}
