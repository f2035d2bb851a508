use Rattle.std.proofs.Common.{◌∷◌, subst}
use Rattle.ns_frozen.specs.declared.cell.CellData.{CellData}
use Rattle.ns_frozen.specs.Thawing.{cell_thawed}
use Rattle.ns_world.specs.Layout.{entries_above}
use Rattle.ns_machine_thaw.specs.Cells.{CellsFit}
use Rattle.ns_machine_thaw.proofs.Fitting.{over_fit}
use Rattle.ns_machine_thaw.proofs.cells.put_cell.Goals as goal

pub put_class-requires-clause-over : goal.put_class-requires-clause-over
put_class-requires-clause-over c =
    let heap = c.args.world.now.world.cells in
    over_fit c.args.code.now c.args.world.now.world.limits.cells c.in-Class.decl (entries_above heap c.args.code.now c.in-Class.over) c.in-Class.encl c.in-Class.holder
    c.in-Class.over heap
    (subst (λ (one : CellData). CellsFit c.args.code.now c.args.world.now.world.limits.cells (cell_thawed c.args.code.now heap one ∷ heap)) c.in-Class.is c.requires.fit)
