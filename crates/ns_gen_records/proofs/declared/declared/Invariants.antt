use Rattle.std.proofs.Common.{◌≡◌, ◌+◌, ◌++◌, length, map, drop}
use Rattle.ns_tree.specs.PlainOf.{unit_of}
use Rattle.ns_resolved.specs.Classes as c
use Rattle.ns_gen_records.proofs.declared.declared.Given as goal

abbrev pub invariant-loop-unit : goal.invariant-loop-unit
invariant-loop-unit l =
    (l.at ≡ l.unit-index)
    × (l.all.items ++ c.units_declared l.number l.next (map unit_of (drop l.unit-index l.units)) (drop l.unit-index l.marks)
    ≡ c.units_declared 0 0 (map unit_of l.units) l.marks)
    × (l.next + length (c.units_bodies l.number l.next (map unit_of (drop l.unit-index l.units)) (drop l.unit-index l.marks))
    ≡ length (c.units_bodies 0 0 (map unit_of l.units) l.marks))
