use Rattle.std.proofs.Common.{◌≡◌, ◌+◌, drop}
use Rattle.ns_handed.specs.Laid.{cost_of_all}
use Rattle.ns_handed.proofs.lay.cost_within.Given as goal

-- What all cost and what the others do differ as the room and what is left of it.
abbrev pub invariant-loop-hand : goal.invariant-loop-hand
invariant-loop-hand l = cost_of_all l.hands + l.left ≡ cost_of_all (drop l.hand-index l.hands) + l.room
