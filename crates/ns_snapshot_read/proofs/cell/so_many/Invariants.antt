use Rattle.std.proofs.Common.{◌≡◌, ◌-◌, []}
use Rattle.ns_image.specs.Read.{times}
use Rattle.ns_image.specs.laws.Loop.{with_front}
use Rattle.ns_snapshot.specs.Reading.{cell}
use Rattle.ns_snapshot_read.proofs.cell.so_many.Given as goal

abbrev pub invariant-cells : goal.invariant-cells
invariant-cells l =
    (l.made.words ≡ [])
    × (with_front l.made.cells (times (l.count - l.counter) cell l.input.rest.now) ≡ times l.fn.count cell l.fn.input.rest.now)
