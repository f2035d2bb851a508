use Rattle.std.proofs.Common.{◌≡◌, ◌++◌, drop}
use Rattle.ns_code.specs.Listed.{all_listed}
use Rattle.ns_code.proofs.classes.listed_of.Given as goal

abbrev pub invariant-classes : goal.invariant-classes
invariant-classes g l =
    (l.number ≡ l.class-index)
    × (l.listed.items ++ all_listed (g.N.Naming.names l.naming) l.number (drop l.class-index l.classes) ≡ all_listed (g.N.Naming.names l.fn.naming) 0 l.fn.classes)
