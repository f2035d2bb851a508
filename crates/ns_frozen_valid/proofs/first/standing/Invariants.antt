use Rattle.std.proofs.Common.{◌≡◌, ◌++◌, map, drop}
use Rattle.ns_moves.specs.Start.{facets_of, tops_of}
use Rattle.ns_frozen_valid.specs.First.{first_shown}
use Rattle.ns_frozen_valid.proofs.first.standing.Given as goal

abbrev pub invariant-classes : goal.invariant-classes
invariant-classes l =
    (l.decl ≡ l.class-index)
    × (map first_shown l.first.items ++ tops_of l.decl (drop l.class-index l.code.classes) ≡ facets_of l.fn.grants ++ tops_of 0 l.code.classes)
