use Rattle.std.proofs.Common.{ap}
use Rattle.std.proofs.lemmas.Result.{err_from_is_err_and}
use Rattle.ns_frozen.specs.Heads.{MadeCells}
use Rattle.ns_image.specs.Read.{times}
use Rattle.ns_image.specs.laws.Loop.{starts, goes_on, ends, is_done}
use Rattle.ns_snapshot.specs.Reading.{cell}
use Rattle.ns_snapshot_read.proofs.Onto.{reads_onto, fails_onto}
use Rattle.ns_snapshot_read.proofs.cell.so_many.Goals as goal

pub cells-init : goal.cells-init
cells-init c =
    (c.new-made.ensures.words, rw c.new-made.ensures.cells (starts (λ _. cell) (λ (s : Unit {0}) _. s) c.args.count tt c.args.input.now.rest.now))

pub returns-in_err-cell : goal.returns-in_err-cell
returns-in_err-cell c =
    let p = err_from_is_err_and c.from_residual.result c.from_residual.ensures.1 in
    rw (p.1, p.2)
    (ends (λ _. cell) (λ (s : Unit {0}) _. s) c.in_err-cell.field-0.0 c.cells.made.cells c.args.count c.cells.counter tt c.cells.input.rest.now
    (times c.args.count cell c.args.input.now.rest.now) c.cells-test.true
    (fails_onto c.cells.made (cell c.cells.input.rest.now) c.in_err-cell.field-0.0 c.in_err-cell.ensures) c.cells.invariant.1)

pub cells-preserved : goal.cells-preserved
cells-preserved c =
    let one = reads_onto c.cells.made c.cell.new.made (cell c.cells.input.rest.now) c.cell.new.input.rest.now c.in_ok-cell.ensures in (
      ap (λ (made : MadeCells). made.words) one.put,
      goes_on (λ _. cell) (λ (s : Unit {0}) _. s) c.cells.made.cells c.cell.new.made.cells c.args.count c.cells.counter tt c.cells.input.rest.now one.cell
          c.cell.new.input.rest.now (times c.args.count cell c.args.input.now.rest.now) c.cells-test.true one.read
          (ap (λ (made : MadeCells). made.cells) one.put) c.cells.invariant.1,
    )

pub returns : goal.returns
returns c =
    rw c.of.ensures
    (is_done (λ _. cell) (λ (s : Unit {0}) _. s) c.cells.made.cells c.args.count c.cells.counter tt c.cells.input.rest.now
    (times c.args.count cell c.args.input.now.rest.now) c.cells-test.false c.cells.invariant.1)
