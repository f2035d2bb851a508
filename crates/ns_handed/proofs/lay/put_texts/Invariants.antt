use Rattle.std.proofs.Common.{◌≡◌, ◌++◌, drop}
use Rattle.ns_handed.specs.Laid.{texts_from}
use Rattle.ns_handed.proofs.lay.put_texts.Given as goal

-- The texts so far and those of the others are all.
abbrev pub invariant-loop-hand : goal.invariant-loop-hand
invariant-loop-hand l = l.texts.items ++ texts_from l.rest (drop l.hand-index l.hands) ≡ l.fn.texts.items ++ texts_from l.bytes l.hands
