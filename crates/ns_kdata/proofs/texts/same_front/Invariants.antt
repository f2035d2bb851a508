use Rattle.std.proofs.Common.{◌≡◌, ◌*◌, take}
use Rattle.ns_kdata.specs.Arguments.{bytes_of}
use Rattle.ns_kdata.proofs.texts.same_front.Given as goal

abbrev pub invariant-rows : goal.invariant-rows
invariant-rows l =
    take (8 * l.row) (bytes_of l.world.world.cells l.text) ≡ take (8 * l.row) (bytes_of l.world.world.cells l.other)
