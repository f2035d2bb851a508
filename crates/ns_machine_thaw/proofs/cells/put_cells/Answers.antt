use Rattle.std.proofs.Common.{arith, ◌+◌, ◌∷◌, List, ap, sym, ◌∙◌, subst, drop}
use Rattle.std.proofs.lemmas.List.{drop_more}
use Rattle.ns_frozen.specs.declared.cell.CellData.{CellData}
use Rattle.ns_machine_thaw.proofs.Onto.{PutOnto, next_fits}
use Rattle.ns_machine_thaw.proofs.cells.put_cells.Goals as goal

pub put_cell-requires-clause-fit : goal.put_cell-requires-clause-fit
put_cell-requires-clause-fit c =
    let one = c.at-cell.result in
    let left = drop (c.cells.place + 1) c.args.cells.now in
    next_fits c.args.code.now c.args.world.now c.cells.world c.args.cells.now left one c.requires.fit
    (subst (λ (cells : List CellData). PutOnto c.args.code.now c.args.world.now c.cells.world c.args.cells.now cells)
    (drop_more c.args.cells.now c.cells.place one (omega (arith, c.cells-test.true, c.len-place-end.ensures)) ∙ ap (λ (first : CellData). first ∷ left) (sym c.at-cell.ensures)) c.cells.invariant)
