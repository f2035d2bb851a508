use Rattle.std.proofs.Common.{◌≡◌, ◌+◌, drop, map}
use Rattle.ns_handed.specs.Hands.{hand_of, text_bytes}
use Rattle.ns_handed.proofs.value.texts_come_to.Given as goal

-- What all texts come to and what the others do differ as the whole and what is left of it.
abbrev pub invariant-loop-value : goal.invariant-loop-value
invariant-loop-value l = text_bytes (map hand_of l.values) + l.left ≡ text_bytes (map hand_of (drop l.value-index l.values)) + l.whole
