use Rattle.std.proofs.Common.{◌≡◌, ◌++◌, replicate, drop}
use Rattle.ns_machine.specs.Places.{spare_place}
use Rattle.ns_machine_plan.specs.Steps.{all_places}
use Rattle.ns_machine.proofs.memory.places_with.Given as goal

abbrev pub invariant-bodies : goal.invariant-bodies
invariant-bodies l = l.all.items ++ all_places (drop l.body-index l.bodies) ≡ all_places l.bodies

abbrev pub invariant-spare : goal.invariant-spare
invariant-spare l = l.all.items ≡ all_places l.bodies ++ replicate l.counter spare_place
