use Rattle.ns_frozen_seen.specs.Fitting.{AreFitting}
use Rattle.ns_frozen_seen.specs.Seen.{heap_of}
use Rattle.ns_frozen_fitting.proofs.fitting.keep_blocks.Given as goal

abbrev pub invariant-cells : goal.invariant-cells
invariant-cells l = AreFitting l.seen.code.now (heap_of l.seen) l.seen.numbers l.kept.items
