use Rattle.std.proofs.Common.{◌≡◌, [], ◌+◌, drop, ap, arith}
use Rattle.std.proofs.lemmas.List.{drop_all}
use Rattle.ns_frozen_tables.specs.Numbers.{data_size}
use Rattle.ns_frozen_tables.specs.laws.Lists.{next_of}
use Rattle.ns_frozen_valid.proofs.Gone.{sizes_of, size_all}
use Rattle.ns_frozen_valid.proofs.rest.cells_used.Goals as goal

pub cells-init : goal.cells-init
cells-init c = (omega arith, omega arith)

pub cells-preserved : goal.cells-preserved
cells-preserved c =
    let at : sizes_of (drop c.cells.place c.args.seen.now.cells.now)
    ≡ data_size c.at-cell.result + sizes_of (drop (c.cells.place + 1) c.args.seen.now.cells.now)
    = ap sizes_of (next_of c.args.seen.now.cells.now c.cells.place c.at-cell.result (omega (arith, c.cells-test.true, c.len-place-end.ensures)) c.at-cell.ensures) in (
      omega (arith, c.cells.invariant.0, c.from-used.ensures, c.size.ensures.few),
      omega (arith, c.cells.invariant.1, at, c.from-used.ensures, c.size.ensures.size),
    )

pub returns : goal.returns
returns c =
    let end : sizes_of (drop c.cells.place c.args.seen.now.cells.now) ≡ 0
    = ap sizes_of (drop_all c.cells.place c.args.seen.now.cells.now (omega (arith, c.cells-test.false, c.len-place-end.ensures))) in
    omega (arith, c.cells.invariant.1, end, size_all c.args.seen.now.code.now [] c.args.seen.now.cells.now)
