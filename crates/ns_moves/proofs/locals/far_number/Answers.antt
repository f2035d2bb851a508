use Rattle.std.proofs.Common.{ap, sym, subst, ◌∙◌}
use Rattle.ns_find.specs.Outward.{outward, IsWay}
use Rattle.ns_moves.proofs.Far.{number_out, way_of_environments}
use Rattle.ns_moves.proofs.locals.far_number.Goals as goal

pub way_out-requires-clause-way : goal.way_out-requires-clause-way
way_out-requires-clause-way c =
    let heap = c.args.world.now.world.cells in
    subst (λ at. IsWay heap at c.args.hops) (sym c.cell_number.ensures) (way_of_environments heap c.args.env c.args.hops c.requires.way)

pub returns-clause-number : goal.returns-clause-number
returns-clause-number c =
    let heap = c.args.world.now.world.cells in
    c.way_out.ensures.out ∙ (ap (λ at. outward heap at c.args.hops) c.cell_number.ensures ∙ sym (number_out heap c.args.env c.args.hops c.requires.way))
