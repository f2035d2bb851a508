use Rattle.std.proofs.Common.{◌≡◌, ◌⊎◌, true}
use Rattle.ns_moves.specs.Turn.{is_still}
use Rattle.ns_machine_core.specs.Shown.{shown}
use Rattle.ns_moves.specs.Falling.{run_left}
use Rattle.ns_machine_turns.specs.Turning.{steps_left, RunsBy, IsTurning}
use Rattle.ns_machine_turns.proofs.turning.turn.Given as goal

abbrev pub invariant-moves : goal.invariant-moves
invariant-moves l = record {
  runs : RunsBy l.code l.plan l.own l.core l.here;
  turning : IsTurning l.code l.steps l.fn.core l.fn.next l.core l.here;
  begun : l.begun ≡ l.fn.core.run.world.world.steps;
}

abbrev pub decreases-moves : goal.decreases-moves
decreases-moves l = run_left l.code (shown l.code l.core l.here)

abbrev pub invariant-last : goal.invariant-last
invariant-last l = record {
  runs : RunsBy l.code l.plan l.own l.core l.here;
  turning : IsTurning l.code l.steps l.fn.core l.fn.next l.core l.here;
  spent : (is_still (shown l.code l.core l.here) ≡ true) ⊎ (steps_left l.steps (shown l.code l.fn.core l.fn.next) (shown l.code l.core l.here) ≡ 0);
}

abbrev pub decreases-last : goal.decreases-last
decreases-last l = run_left l.code (shown l.code l.core l.here)
