use Rattle.std.proofs.Common.{◌+◌, drop, arith}
use Rattle.std.proofs.lemmas.List.{drop_all}
use Rattle.ns_frozen_tables.proofs.Built.{built_item, built_goes_on, built_ends, built_past, built_starts}
use Rattle.ns_frozen_tables.proofs.chain.Chains.of.Goals as goal

pub cells-init : goal.cells-init
cells-init c =
    built_starts c.args.code.now c.args.cells.now (record { numbers = c.new.result; chains = c.new-2.result }) c.new.ensures.items c.new-2.ensures.items

pub returns-then-number-from : goal.returns-then-number-from
returns-then-number-from c =
    built_past c.args.code.now c.args.cells.now (drop c.cells.place c.args.cells.now) c.cells.number c.cells.chains c.cells.invariant
    (omega (arith, c.if-number-from.true, c.from.ensures))

pub cells-preserved : goal.cells-preserved
cells-preserved c =
    built_goes_on c.args.code.now c.args.cells.now (drop (c.cells.place + 1) c.args.cells.now) c.at-cell.result c.cells.number c.size-number.result c.cells.chains
    c.add.new.self
    (built_item c.args.code.now c.args.cells.now c.cells.place c.cells.number c.at-cell.result c.cells.chains (omega arith) c.at-cell.ensures c.cells.invariant)
    c.size-number.ensures.size c.in_ok-add.ensures

pub returns : goal.returns
returns c =
    built_ends c.args.code.now c.args.cells.now (drop c.cells.place c.args.cells.now) c.cells.number c.cells.chains c.cells.invariant
    (drop_all c.cells.place c.args.cells.now (omega arith))
