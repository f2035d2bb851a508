use Rattle.std.proofs.Common.{[], ◌∷◌, ◌++◌}
use Rattle.std.proofs.lemmas.Result.{err_from_is_err_and}
use Rattle.ns_world.specs.declared.cell.FacetKind.TheVariants as facet
use Rattle.ns_world.specs.Cell.{FacetCell}
use Rattle.ns_moves.specs.Start.{facet_if}
use Rattle.ns_machine_start.proofs.Made.{both_made, both_stopped}
use Rattle.ns_machine_start.proofs.cells.make_facets.Goals as goal

pub returns-in_err-make_cell : goal.returns-in_err-make_cell
returns-in_err-make_cell c =
    let p = err_from_is_err_and c.from_residual.result c.from_residual.ensures.1 in
    rw p.1 (both_stopped (FacetCell facet.Manifest ∷ []) ((FacetCell facet.Platform ∷ []) ++ ((facet_if c.args.grants.console facet.Console) ++ ((facet_if c.args.grants.mirrors facet.Mirrors) ++ ((facet_if c.args.grants.kernel facet.Kernel) ++ (facet_if c.args.grants.board facet.Board))))) c.args.world.now c.make_cell.new.world _ _ c.in_err-make_cell.ensures)

pub returns-in_err-make_cell-2 : goal.returns-in_err-make_cell-2
returns-in_err-make_cell-2 c =
    let p = err_from_is_err_and c.from_residual-in_err-make_cell-2.result c.from_residual-in_err-make_cell-2.ensures.1 in
    rw p.1 (both_made (FacetCell facet.Manifest ∷ []) ((FacetCell facet.Platform ∷ []) ++ ((facet_if c.args.grants.console facet.Console) ++ ((facet_if c.args.grants.mirrors facet.Mirrors) ++ ((facet_if c.args.grants.kernel facet.Kernel) ++ (facet_if c.args.grants.board facet.Board))))) c.args.world.now c.make_cell.new.world c.make_cell-2.new.world _ c.in_ok-make_cell.ensures
    (both_stopped (FacetCell facet.Platform ∷ []) ((facet_if c.args.grants.console facet.Console) ++ ((facet_if c.args.grants.mirrors facet.Mirrors) ++ ((facet_if c.args.grants.kernel facet.Kernel) ++ (facet_if c.args.grants.board facet.Board)))) c.make_cell.new.world c.make_cell-2.new.world _ _ c.in_err-make_cell-2.ensures))

pub returns-in_err-make_facet_if : goal.returns-in_err-make_facet_if
returns-in_err-make_facet_if c =
    let p = err_from_is_err_and c.from_residual-in_err-make_facet_if.result c.from_residual-in_err-make_facet_if.ensures.1 in
    rw p.1 (both_made (FacetCell facet.Manifest ∷ []) ((FacetCell facet.Platform ∷ []) ++ ((facet_if c.args.grants.console facet.Console) ++ ((facet_if c.args.grants.mirrors facet.Mirrors) ++ ((facet_if c.args.grants.kernel facet.Kernel) ++ (facet_if c.args.grants.board facet.Board))))) c.args.world.now c.make_cell.new.world c.make_facet_if.new.world _ c.in_ok-make_cell.ensures
    (both_made (FacetCell facet.Platform ∷ []) ((facet_if c.args.grants.console facet.Console) ++ ((facet_if c.args.grants.mirrors facet.Mirrors) ++ ((facet_if c.args.grants.kernel facet.Kernel) ++ (facet_if c.args.grants.board facet.Board)))) c.make_cell.new.world c.make_cell-2.new.world c.make_facet_if.new.world _ c.in_ok-make_cell-2.ensures
    (both_stopped (facet_if c.args.grants.console facet.Console) ((facet_if c.args.grants.mirrors facet.Mirrors) ++ ((facet_if c.args.grants.kernel facet.Kernel) ++ (facet_if c.args.grants.board facet.Board))) c.make_cell-2.new.world c.make_facet_if.new.world _ _ c.in_err-make_facet_if.ensures)))

pub returns-in_err-make_facet_if-2 : goal.returns-in_err-make_facet_if-2
returns-in_err-make_facet_if-2 c =
    let p = err_from_is_err_and c.from_residual-in_err-make_facet_if-2.result c.from_residual-in_err-make_facet_if-2.ensures.1 in
    rw p.1 (both_made (FacetCell facet.Manifest ∷ []) ((FacetCell facet.Platform ∷ []) ++ ((facet_if c.args.grants.console facet.Console) ++ ((facet_if c.args.grants.mirrors facet.Mirrors) ++ ((facet_if c.args.grants.kernel facet.Kernel) ++ (facet_if c.args.grants.board facet.Board))))) c.args.world.now c.make_cell.new.world c.make_facet_if-2.new.world _ c.in_ok-make_cell.ensures
    (both_made (FacetCell facet.Platform ∷ []) ((facet_if c.args.grants.console facet.Console) ++ ((facet_if c.args.grants.mirrors facet.Mirrors) ++ ((facet_if c.args.grants.kernel facet.Kernel) ++ (facet_if c.args.grants.board facet.Board)))) c.make_cell.new.world c.make_cell-2.new.world c.make_facet_if-2.new.world _ c.in_ok-make_cell-2.ensures
    (both_made (facet_if c.args.grants.console facet.Console) ((facet_if c.args.grants.mirrors facet.Mirrors) ++ ((facet_if c.args.grants.kernel facet.Kernel) ++ (facet_if c.args.grants.board facet.Board))) c.make_cell-2.new.world c.make_facet_if.new.world c.make_facet_if-2.new.world _ c.in_ok-make_facet_if.ensures
    (both_stopped (facet_if c.args.grants.mirrors facet.Mirrors) ((facet_if c.args.grants.kernel facet.Kernel) ++ (facet_if c.args.grants.board facet.Board)) c.make_facet_if.new.world c.make_facet_if-2.new.world _ _ c.in_err-make_facet_if-2.ensures))))

pub returns-in_err-make_facet_if-3 : goal.returns-in_err-make_facet_if-3
returns-in_err-make_facet_if-3 c =
    let p = err_from_is_err_and c.from_residual-in_err-make_facet_if-3.result c.from_residual-in_err-make_facet_if-3.ensures.1 in
    rw p.1 (both_made (FacetCell facet.Manifest ∷ []) ((FacetCell facet.Platform ∷ []) ++ ((facet_if c.args.grants.console facet.Console) ++ ((facet_if c.args.grants.mirrors facet.Mirrors) ++ ((facet_if c.args.grants.kernel facet.Kernel) ++ (facet_if c.args.grants.board facet.Board))))) c.args.world.now c.make_cell.new.world c.make_facet_if-3.new.world _ c.in_ok-make_cell.ensures
    (both_made (FacetCell facet.Platform ∷ []) ((facet_if c.args.grants.console facet.Console) ++ ((facet_if c.args.grants.mirrors facet.Mirrors) ++ ((facet_if c.args.grants.kernel facet.Kernel) ++ (facet_if c.args.grants.board facet.Board)))) c.make_cell.new.world c.make_cell-2.new.world c.make_facet_if-3.new.world _ c.in_ok-make_cell-2.ensures
    (both_made (facet_if c.args.grants.console facet.Console) ((facet_if c.args.grants.mirrors facet.Mirrors) ++ ((facet_if c.args.grants.kernel facet.Kernel) ++ (facet_if c.args.grants.board facet.Board))) c.make_cell-2.new.world c.make_facet_if.new.world c.make_facet_if-3.new.world _ c.in_ok-make_facet_if.ensures
    (both_made (facet_if c.args.grants.mirrors facet.Mirrors) ((facet_if c.args.grants.kernel facet.Kernel) ++ (facet_if c.args.grants.board facet.Board)) c.make_facet_if.new.world c.make_facet_if-2.new.world c.make_facet_if-3.new.world _ c.in_ok-make_facet_if-2.ensures
    (both_stopped (facet_if c.args.grants.kernel facet.Kernel) (facet_if c.args.grants.board facet.Board) c.make_facet_if-2.new.world c.make_facet_if-3.new.world _ _ c.in_err-make_facet_if-3.ensures)))))

pub returns : goal.returns
returns c =
    both_made (FacetCell facet.Manifest ∷ []) ((FacetCell facet.Platform ∷ []) ++ ((facet_if c.args.grants.console facet.Console) ++ ((facet_if c.args.grants.mirrors facet.Mirrors) ++ ((facet_if c.args.grants.kernel facet.Kernel) ++ (facet_if c.args.grants.board facet.Board))))) c.args.world.now c.make_cell.new.world c.make_facet_if-4.new.world c.make_facet_if-4.result c.in_ok-make_cell.ensures
    (both_made (FacetCell facet.Platform ∷ []) ((facet_if c.args.grants.console facet.Console) ++ ((facet_if c.args.grants.mirrors facet.Mirrors) ++ ((facet_if c.args.grants.kernel facet.Kernel) ++ (facet_if c.args.grants.board facet.Board)))) c.make_cell.new.world c.make_cell-2.new.world c.make_facet_if-4.new.world c.make_facet_if-4.result c.in_ok-make_cell-2.ensures
    (both_made (facet_if c.args.grants.console facet.Console) ((facet_if c.args.grants.mirrors facet.Mirrors) ++ ((facet_if c.args.grants.kernel facet.Kernel) ++ (facet_if c.args.grants.board facet.Board))) c.make_cell-2.new.world c.make_facet_if.new.world c.make_facet_if-4.new.world c.make_facet_if-4.result c.in_ok-make_facet_if.ensures
    (both_made (facet_if c.args.grants.mirrors facet.Mirrors) ((facet_if c.args.grants.kernel facet.Kernel) ++ (facet_if c.args.grants.board facet.Board)) c.make_facet_if.new.world c.make_facet_if-2.new.world c.make_facet_if-4.new.world c.make_facet_if-4.result c.in_ok-make_facet_if-2.ensures
    (both_made (facet_if c.args.grants.kernel facet.Kernel) (facet_if c.args.grants.board facet.Board) c.make_facet_if-2.new.world c.make_facet_if-3.new.world c.make_facet_if-4.new.world c.make_facet_if-4.result c.in_ok-make_facet_if-3.ensures
    (c.make_facet_if-4.ensures)))))
