use Rattle.std.proofs.Common.{◌≡◌, ◌+◌, length, drop}
use Rattle.ns_machine_plan.specs.Steps.{all_places}
use Rattle.ns_machine_plan.proofs.room.place_count.Given as goal

abbrev pub invariant-bodies : goal.invariant-bodies
invariant-bodies l = l.count + length (all_places (drop l.body-index l.bodies)) ≡ length (all_places l.bodies)
