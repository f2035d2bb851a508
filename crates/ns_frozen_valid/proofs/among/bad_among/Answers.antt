use Rattle.std.proofs.Common.{List, ◌+◌, true, false, drop, map, refl, subst, ap, sym, ◌∙◌, arith}
use Rattle.std.proofs.lemmas.List.{drop_all}
use Rattle.ns_frozen.specs.declared.cell.CellData.{CellData}
use Rattle.ns_frozen_valid.specs.Cells.{bad_data_from}
use Rattle.ns_frozen_valid.specs.First.{first_shown}
use Rattle.ns_frozen_seen.specs.Seen.{heap_of}
use Rattle.ns_frozen_tables.specs.laws.Lists.{next_of}
use Rattle.ns_frozen_valid.proofs.Gone.{IsLeft, left_on, left_here, bad_on, bad_here, bad_end}
use Rattle.ns_frozen_valid.proofs.among.bad_among.Goals as goal

pub cells-init : goal.cells-init
cells-init c = (refl, omega arith, λ wanted h. refl, refl)

pub stands-requires-clause-there : goal.stands-requires-clause-there
stands-requires-clause-there c =
    let at = next_of c.args.seen.now.cells.now c.cells.at c.at-cell.result (omega (arith, c.cells-test.true, c.len-at-end.ensures)) c.at-cell.ensures in
    left_here c.args.seen.now.code.now c.args.seen.now.cells.now (drop (c.cells.at + 1) c.args.seen.now.cells.now) c.at-cell.result c.cells.number
    (subst (λ (left : List CellData). IsLeft c.args.seen.now.cells.now left c.cells.number) at c.cells.invariant.2)

pub returns-then-not-stands : goal.returns-then-not-stands
returns-then-not-stands c =
    let at = next_of c.args.seen.now.cells.now c.cells.at c.at-cell.result (omega (arith, c.cells-test.true, c.len-at-end.ensures)) c.at-cell.ensures in
    bad_here c.args.seen.now.code.now (heap_of c.args.seen.now) c.args.homes (map first_shown c.cells.first.now) c.cells.arguments c.cells.place c.cells.number
    c.at-cell.result (drop (c.cells.at + 1) c.args.seen.now.cells.now) _ (sym c.if-not-stands.ensures)
    (ap (bad_data_from c.args.seen.now.code.now (heap_of c.args.seen.now) c.args.homes (map first_shown c.cells.first.now) c.cells.arguments c.cells.place c.cells.number) (sym at)
    ∙ c.cells.invariant.3)

pub cells-preserved : goal.cells-preserved
cells-preserved c =
    let at = next_of c.args.seen.now.cells.now c.cells.at c.at-cell.result (omega (arith, c.cells-test.true, c.len-at-end.ensures)) c.at-cell.ensures in (
      omega (arith, c.cells.invariant.0),
      omega (arith, c.cells.invariant.1, c.from-number.ensures, c.size.ensures.few),
      left_on c.args.seen.now.cells.now (drop (c.cells.at + 1) c.args.seen.now.cells.now) c.at-cell.result c.cells.number c.from-number.result
          (c.from-number.ensures ∙ c.size.ensures.size)
          (subst (λ (left : List CellData). IsLeft c.args.seen.now.cells.now left c.cells.number) at c.cells.invariant.2),
      bad_on c.args.seen.now.code.now (heap_of c.args.seen.now) c.args.homes (map first_shown c.cells.first.now) (map first_shown c.behind_first-first.result.now)
          c.cells.arguments c.arguments_behind-arguments.result c.cells.place c.cells.number c.from-number.result c.at-cell.result
          (drop (c.cells.at + 1) c.args.seen.now.cells.now) _ c.behind_first-first.ensures (c.arguments_behind-arguments.ensures c.args.seen.now.code.now)
          (c.from-number.ensures ∙ c.size.ensures.size) (sym c.if-not-stands.ensures)
          (ap (bad_data_from c.args.seen.now.code.now (heap_of c.args.seen.now) c.args.homes (map first_shown c.cells.first.now) c.cells.arguments c.cells.place c.cells.number) (sym at)
          ∙ c.cells.invariant.3),
    )

pub returns-then-is_awaited : goal.returns-then-is_awaited
returns-then-is_awaited c =
    bad_end c.args.seen.now.code.now (heap_of c.args.seen.now) c.args.homes (map first_shown c.cells.first.now) c.cells.arguments true c.cells.place c.cells.number
    (drop c.cells.at c.args.seen.now.cells.now) _ (drop_all c.cells.at c.args.seen.now.cells.now (omega (arith, c.cells-test.false, c.len-at-end.ensures)))
    (sym c.if-is_awaited.ensures) c.cells.invariant.3

pub returns-else-is_awaited : goal.returns-else-is_awaited
returns-else-is_awaited c =
    bad_end c.args.seen.now.code.now (heap_of c.args.seen.now) c.args.homes (map first_shown c.cells.first.now) c.cells.arguments false c.cells.place c.cells.number
    (drop c.cells.at c.args.seen.now.cells.now) _ (drop_all c.cells.at c.args.seen.now.cells.now (omega (arith, c.cells-test.false, c.len-at-end.ensures)))
    (sym c.if-is_awaited.ensures) c.cells.invariant.3
