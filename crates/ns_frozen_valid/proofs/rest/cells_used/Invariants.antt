use Rattle.std.proofs.Common.{◌≡◌, ◌≤◌, ◌+◌, ◌*◌, drop}
use Rattle.ns_frozen_valid.proofs.Gone.{sizes_of}
use Rattle.ns_frozen_valid.proofs.rest.cells_used.Given as goal

abbrev pub invariant-cells : goal.invariant-cells
invariant-cells l =
    (l.used ≤ 9223372036854775808 * l.place)
    × (l.used + sizes_of (drop l.place l.seen.cells.now) ≡ sizes_of l.seen.cells.now)
