use Rattle.std.proofs.Common.{◌≡◌, drop}
use Rattle.std.specs.Str.{bytes_eq}
use Rattle.ns_kdata.specs.Arguments.{bytes_of}
use Rattle.ns_kdata.proofs.texts.are_equal.Given as goal

abbrev pub invariant-bytes : goal.invariant-bytes
invariant-bytes l =
    bytes_eq (drop l.place (bytes_of l.world.world.cells l.text)) (drop l.place (bytes_of l.world.world.cells l.other))
    ≡ bytes_eq (bytes_of l.world.world.cells l.text) (bytes_of l.world.world.cells l.other)
