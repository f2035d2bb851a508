use Rattle.std.proofs.Common.{◌≡◌}
use Rattle.ns_moves.specs.Falling.{run_left}
use Rattle.ns_run_trace.specs.Nearing.{HasMoved}
use Rattle.ns_run_trace.proofs.before.moves_left.Given as goal

abbrev pub invariant-moves : goal.invariant-moves
invariant-moves l = record {
  code : l.machine.code ≡ l.fn.machine.code;
  moved : HasMoved l.fn.machine.code l.fn.machine.state l.count l.machine.state;
}

abbrev pub decreases-moves : goal.decreases-moves
decreases-moves l = run_left l.machine.code l.machine.state
