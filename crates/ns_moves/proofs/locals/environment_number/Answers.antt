use Rattle.std.proofs.Common.{ap, ◌∙◌, arith}
use Rattle.ns_world.specs.Heap.{find_cell}
use Rattle.ns_world.specs.Lawful.{is_environment}
use Rattle.ns_moves.proofs.locals.environment_number.Goals as goal

pub parent-requires : goal.parent-requires
parent-requires c =
    ap (λ n. is_environment (find_cell c.args.world.now.world.cells n)) c.cell_number-then-hops-eq1.ensures ∙ c.requires.way 0 (omega (arith))
