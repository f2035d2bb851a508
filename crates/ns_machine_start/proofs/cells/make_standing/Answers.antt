use Rattle.std.proofs.Common.{subst}
use Rattle.std.proofs.lemmas.Result.{err_from_is_err_and}
use Rattle.ns_moves.specs.Start.{facets_of, tops_of}
use Rattle.ns_machine_start.specs.Making.{CellsAreMade}
use Rattle.ns_machine_start.proofs.Made.{both_made, both_stopped}
use Rattle.ns_machine_start.proofs.cells.make_standing.Goals as goal

pub returns-in_err-make_facets : goal.returns-in_err-make_facets
returns-in_err-make_facets c =
    let p = err_from_is_err_and c.from_residual.result c.from_residual.ensures.1 in
    rw p.1 (both_stopped (facets_of c.args.grants) (tops_of 0 c.args.code.now.classes) c.args.world.now c.make_facets.new.world _ _ c.in_err-make_facets.ensures)

pub returns : goal.returns
returns c =
    both_made (facets_of c.args.grants) (tops_of 0 c.args.code.now.classes) c.args.world.now c.make_facets.new.world c.make_tops.new.world c.make_tops.result
    c.in_ok-make_facets.ensures
    (subst (λ classes. CellsAreMade (tops_of 0 classes) c.make_facets.new.world c.make_tops.result c.make_tops.new.world) c.as_slice.ensures c.make_tops.ensures)
