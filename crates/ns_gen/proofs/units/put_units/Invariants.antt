use Rattle.std.proofs.Common.{◌≡◌, map, drop}
use Rattle.ns_tree.specs.PlainOf.{unit_of}
use Rattle.ns_resolved.specs.Classes as c
use Rattle.ns_gen_bodies.specs.Coding.{with_bodies}
use Rattle.ns_gen.proofs.units.put_units.Given as goal

abbrev pub invariant-loop-unit : goal.invariant-loop-unit
invariant-loop-unit l =
    (l.at ≡ l.unit-index)
    × (with_bodies (c.units_bodies l.number l.next (map unit_of (drop l.unit-index l.units)) (drop l.unit-index l.marks)) l.output
    ≡ with_bodies (c.units_bodies 0 0 (map unit_of l.units) l.marks) l.fn.output)
