use Rattle.std.proofs.Common.{◌≡◌, ◌≤◌, ◌*◌, map, drop}
use Rattle.ns_frozen_valid.specs.Cells.{bad_data_from}
use Rattle.ns_frozen_valid.specs.First.{first_shown}
use Rattle.ns_frozen_seen.specs.Seen.{heap_of}
use Rattle.ns_frozen_valid.proofs.Gone.{IsLeft}
use Rattle.ns_frozen_valid.proofs.among.bad_among.Given as goal

abbrev pub invariant-cells : goal.invariant-cells
invariant-cells l =
    (l.place ≡ l.at)
    × (l.number ≤ 9223372036854775808 * l.at)
    × IsLeft l.seen.cells.now (drop l.at l.seen.cells.now) l.number
    × (bad_data_from l.seen.code.now (heap_of l.seen) l.homes (map first_shown l.first) l.arguments l.place l.number (drop l.at l.seen.cells.now)
    ≡ bad_data_from l.seen.code.now (heap_of l.seen) l.homes (map first_shown l.fn.first) l.fn.arguments 0 0 l.seen.cells.now)
