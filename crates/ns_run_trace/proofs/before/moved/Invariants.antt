use Rattle.std.proofs.Common.{◌≡◌}
use Rattle.ns_moves.specs.Move.{moves}
use Rattle.ns_run_trace.proofs.before.moved.Given as goal

abbrev pub invariant-moves : goal.invariant-moves
invariant-moves l = l.machine ≡ record l.fn.machine { state = moves l.fn.machine.code l._made l.fn.machine.state }
