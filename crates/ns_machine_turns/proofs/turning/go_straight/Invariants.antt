use Rattle.std.proofs.Common.{◌-◌, ◌≤◌}
use Rattle.ns_machine_core.specs.declared.state.Next.TheVariants.{On}
use Rattle.ns_machine_core.specs.Shown.{shown}
use Rattle.ns_machine_core.specs.Straight.{TopRunsBody}
use Rattle.ns_moves.specs.Falling.{run_left}
use Rattle.ns_machine_turns.specs.Turning.{GoesAlong}
use Rattle.ns_machine_turns.proofs.turning.go_straight.Given as goal

abbrev pub invariant-straight : goal.invariant-straight
invariant-straight l = record {
  along : GoesAlong l.code l.plan l.own l.left l.fn.core (On l.fn.at) l.core (On l.here);
  rest : l.rest ≤ l.left - (l.core.run.world.world.steps - l.fn.core.run.world.world.steps);
  some : 1 ≤ l.rest;
  runs : TopRunsBody l.body l.core.stack.frames.items;
}

abbrev pub decreases-straight : goal.decreases-straight
decreases-straight l = run_left l.code (shown l.code l.core (On l.here))
