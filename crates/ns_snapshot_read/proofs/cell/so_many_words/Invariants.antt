use Rattle.std.proofs.Common.{◌≡◌, ◌-◌}
use Rattle.ns_image.specs.Read.{times}
use Rattle.ns_image.specs.laws.Loop.{with_front}
use Rattle.ns_snapshot.specs.Fields.{value}
use Rattle.ns_snapshot_read.proofs.cell.so_many_words.Given as goal

abbrev pub invariant-words : goal.invariant-words
invariant-words l =
    (l.made.cells ≡ l.fn.made.cells)
    × (with_front l.made.words (times (l.count - l.counter) value l.input.rest.now) ≡ times l.fn.count value l.fn.input.rest.now)
