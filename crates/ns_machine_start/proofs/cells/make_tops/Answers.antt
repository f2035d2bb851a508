use Rattle.std.proofs.Common.{get_or, refl}
use Rattle.std.proofs.lemmas.Result.{err_from_is_err_and}
use Rattle.ns_machine_start.proofs.Listed.{top_made, top_stopped}
use Rattle.ns_machine_start.proofs.cells.make_tops.Goals as goal

pub returns-in_err-make_top_if : goal.returns-in_err-make_top_if
returns-in_err-make_top_if c =
    let p = err_from_is_err_and c.from_residual.result c.from_residual.ensures.1 in
    rw p.1
    (top_stopped c.args.classes.now c.classes.decl (get_or c.args.classes.now c.classes.decl c.index-classes-decl.result) c.index-classes-decl.result
    c.args.world.now c.classes.world c.make_top_if.new.world _ _ c.classes-test.true
    refl c.classes.invariant c.in_err-make_top_if.ensures)

pub classes-preserved : goal.classes-preserved
classes-preserved c =
    top_made c.args.classes.now c.classes.decl (get_or c.args.classes.now c.classes.decl c.index-classes-decl.result) c.index-classes-decl.result
    c.args.world.now c.classes.world c.make_top_if.new.world c.classes-test.true
    refl c.classes.invariant c.in_ok-make_top_if.ensures
