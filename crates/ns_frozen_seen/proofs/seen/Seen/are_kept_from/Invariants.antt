use Rattle.std.proofs.Common.{◌≡◌, ◌+◌, drop}
use Rattle.ns_frozen.specs.Cells.{are_kept_from}
use Rattle.ns_frozen_seen.specs.Seen.{heap_of}
use Rattle.ns_frozen_seen.proofs.seen.Seen.are_kept_from.Given as goal

abbrev pub invariant-nested : goal.invariant-nested
invariant-nested l =
    (l.word ≡ l.first + l.one-index)
    × (are_kept_from (heap_of l.self) l.number l.holder l.words l.word (drop l.one-index l.nested)
    ≡ are_kept_from (heap_of l.self) l.number l.holder l.words l.first l.nested)
