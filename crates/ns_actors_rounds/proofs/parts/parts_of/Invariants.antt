use Rattle.std.proofs.Common.{◌≡◌, ◌++◌, drop, map}
use Rattle.ns_actors_rounds.specs.Parts.{part_of}
use Rattle.ns_actors_rounds.proofs.parts.parts_of.Given as goal

-- the parts so far, and those of the actors that are left, are those of all
abbrev pub invariant-actors : goal.invariant-actors
invariant-actors l = l.parts.items ++ map part_of (drop l.number l.actors.actors) ≡ map part_of l.actors.actors
