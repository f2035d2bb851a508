use Rattle.std.proofs.Common.{◌≡◌, ◌+◌, drop}
use Rattle.ns_classes.specs.Nested.{place_of}
use Rattle.ns_classes.proofs.nested.place_of.Given as goal

abbrev pub invariant-places : goal.invariant-places
invariant-places l =
    (l.place ≡ l.one-index)
    × (l.place + place_of (drop l.one-index l.nested) l.class ≡ place_of l.nested l.class)
