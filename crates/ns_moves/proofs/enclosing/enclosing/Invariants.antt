use Rattle.std.proofs.Common.{◌≡◌}
use Rattle.ns_moves.specs.Bodies.{lexical}
use Rattle.ns_moves.specs.Enclosing.{place_of}
use Rattle.ns_moves.proofs.enclosing.enclosing.Given as goal

abbrev pub invariant-out : goal.invariant-out
invariant-out l = place_of l.at ≡ lexical l.world.world.cells l.fn.running.me l.fn.running.holder l._level
