use Rattle.std.proofs.Common.{◌≡◌, ◌+◌, ◌*◌, ◌≤◌, length, drop}
use Rattle.ns_kdata.specs.Arguments.{bytes_of}
use Rattle.ns_base.specs.Quoted.{doubled}
use Rattle.ns_kdata.proofs.making.quoted_size.Given as goal

abbrev pub invariant-bytes : goal.invariant-bytes
invariant-bytes l = record {
  rest : l.count + length (doubled (drop l.place (bytes_of l.world.world.cells l.text))) ≡ 2 + length (doubled (bytes_of l.world.world.cells l.text));
  small : l.count ≤ 2 + l.place * 2;
}
