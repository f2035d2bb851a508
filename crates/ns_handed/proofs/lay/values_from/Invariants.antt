use Rattle.std.proofs.Common.{◌≡◌, ◌+◌, ◌++◌, drop}
use Rattle.ns_handed.specs.Laid.{cost_of_all, values_from}
use Rattle.ns_handed.proofs.lay.values_from.Given as goal

-- The values so far and those of the others from the next cell on are all values, and all texts end where the others do.
abbrev pub invariant-loop-hand : goal.invariant-loop-hand
invariant-loop-hand l = record {
  told : l.values.items ++ values_from l.behind (drop l.hand-index l.hands) ≡ values_from l.next l.hands;
  count : l.behind + cost_of_all (drop l.hand-index l.hands) ≡ l.next + cost_of_all l.hands;
}
