use Rattle.std.proofs.Common.{◌≡◌, drop}
use Rattle.ns_frozen.specs.Live.{are_live}
use Rattle.ns_frozen_seen.specs.Seen.{heap_of}
use Rattle.ns_frozen_seen.proofs.seen.Seen.are_live.Given as goal

abbrev pub invariant-values : goal.invariant-values
invariant-values l = are_live l.self.code.now (heap_of l.self) (drop l.value-index l.values) ≡ are_live l.self.code.now (heap_of l.self) l.values
