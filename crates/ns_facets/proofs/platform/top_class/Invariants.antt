use Rattle.std.proofs.Common.{◌≡◌, drop}
use Rattle.ns_facets.specs.Platform.{top_class}
use Rattle.ns_facets.proofs.platform.top_class.Given as goal

abbrev pub invariant-classes : goal.invariant-classes
invariant-classes l =
    (l.number ≡ l.class-index)
    × (top_class l.world.world.cells l.number (drop l.class-index l.code.classes) l.sel ≡ top_class l.world.world.cells 0 l.code.classes l.sel)
