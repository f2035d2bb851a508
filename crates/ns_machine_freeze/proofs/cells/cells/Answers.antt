use Rattle.std.proofs.Common.{◌<◌, ◌≤◌, ap, refl, ◌∙◌, arith}
use Rattle.ns_world.specs.declared.ending.Counters.{Counters}
use Rattle.ns_world.specs.Heap.{heap_size}
use Rattle.ns_machine_freeze.proofs.Walked.{walk_starts, walk_goes_on, walk_ends}
use Rattle.ns_machine_freeze.proofs.cells.cells.Goals as goal

pub walk-init : goal.walk-init
walk-init c = (rw c.new-made.ensures.cells (walk_starts c.args.world.now.world.cells), c.new-made.ensures.words)

pub walk-preserved : goal.walk-preserved
walk-preserved c =
    let more : c.walk.at < heap_size c.args.world.now.world.cells =
    omega (arith, c.walk-test.true, c.from.ensures, ap (λ (used : Counters). used.cells) c.counters-end.ensures) in
    rw (c.in_ok-put_cell.ensures, c.next-at.ensures) (walk_goes_on c.args.world.now.world.cells c.walk.made.cells c.walk.at more c.walk.invariant.0, refl)

pub returns : goal.returns
returns c =
    let past : heap_size c.args.world.now.world.cells ≤ c.walk.at =
    omega (arith, c.walk-test.false, c.from.ensures, ap (λ (used : Counters). used.cells) c.counters-end.ensures) in
    c.of.ensures ∙ walk_ends c.args.world.now.world.cells c.walk.made.cells c.walk.at past c.walk.invariant.0
