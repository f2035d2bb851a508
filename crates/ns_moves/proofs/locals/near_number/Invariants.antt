use Rattle.std.proofs.Common.{◌≡◌}
use Rattle.ns_world.specs.Heap.{cell_number}
use Rattle.ns_moves.specs.Bodies.{environment_out}
use Rattle.ns_moves.proofs.locals.near_number.Given as goal

abbrev pub invariant-out : goal.invariant-out
invariant-out l = l.at ≡ cell_number (environment_out l.world.world.cells l.fn.env l._hop)
