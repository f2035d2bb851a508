use Rattle.std.proofs.Common.{◌≡◌, drop}
use Rattle.ns_kdata.specs.Arguments.{bytes_of}
use Rattle.ns_kdata.specs.Texts.{is_before}
use Rattle.ns_kdata.proofs.texts.comes_before.Given as goal

abbrev pub invariant-bytes : goal.invariant-bytes
invariant-bytes l =
    is_before (drop l.place (bytes_of l.world.world.cells l.text)) (drop l.place (bytes_of l.world.world.cells l.other))
    ≡ is_before (bytes_of l.world.world.cells l.text) (bytes_of l.world.world.cells l.other)
