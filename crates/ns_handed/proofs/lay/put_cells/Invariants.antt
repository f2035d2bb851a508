use Rattle.std.proofs.Common.{◌≡◌, ◌++◌, drop}
use Rattle.ns_handed.specs.Laid.{cells_from}
use Rattle.ns_handed.proofs.lay.put_cells.Given as goal

-- The cells so far and those of the others are all.
abbrev pub invariant-loop-hand : goal.invariant-loop-hand
invariant-loop-hand l = l.cells.cells ++ cells_from l.rest (drop l.hand-index l.hands) ≡ l.fn.cells.cells ++ cells_from l.texts l.hands
