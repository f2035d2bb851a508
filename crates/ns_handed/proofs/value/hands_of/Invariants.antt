use Rattle.std.proofs.Common.{◌≡◌, ◌++◌, drop, map}
use Rattle.ns_handed.specs.Hands.{hand_of}
use Rattle.ns_handed.proofs.value.hands_of.Given as goal

-- What was read so far and what the values that are left stand for are all hands.
abbrev pub invariant-loop-value : goal.invariant-loop-value
invariant-loop-value l = l.hands.items ++ map hand_of (drop l.value-index l.values) ≡ map hand_of l.values
