use Rattle.std.proofs.Common.{◌≡◌, ◌≤◌, ◌*◌, ◌++◌, map, drop}
use Rattle.ns_moves.specs.Valid.{fitting}
use Rattle.ns_frozen_valid.specs.First.{first_shown}
use Rattle.ns_frozen_valid.proofs.first.fitting.Given as goal

abbrev pub invariant-cells : goal.invariant-cells
invariant-cells l =
    (l.used ≤ 4 * l.cell-index)
    × (map first_shown l.first.items ++ fitting l.room l.used (map first_shown (drop l.cell-index l.cells)) ≡ fitting l.room 0 (map first_shown l.cells))
