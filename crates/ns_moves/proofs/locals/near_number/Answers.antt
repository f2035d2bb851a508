use Rattle.std.proofs.Common.{◌≡◌, suc, ◌+◌, ap, ◌∙◌, arith}
use Rattle.ns_world.specs.Heap.{find_cell, shape_at, cell_number}
use Rattle.ns_world.specs.Lawful.{is_environment}
use Rattle.ns_moves.specs.Bodies.{environment_out, parent_in}
use Rattle.ns_moves.proofs.locals.near_number.Goals as goal

pub parent-at-requires : goal.parent-at-requires
parent-at-requires c =
    let heap = c.args.world.now.world.cells in
    ap (λ n. is_environment (find_cell heap n)) c.out.invariant ∙ c.requires c.out._hop (omega (arith, c.out-test.true))

pub out-preserved : goal.out-preserved
out-preserved c =
    let heap = c.args.world.now.world.cells in
    let more : suc c.out._hop ≡ c.out._hop + 1 = omega arith in
    c.parent-at.ensures
    ∙ (ap (λ n. cell_number (parent_in (shape_at heap n))) c.out.invariant
    ∙ ap (λ k. cell_number (environment_out heap c.args.env k)) more)
