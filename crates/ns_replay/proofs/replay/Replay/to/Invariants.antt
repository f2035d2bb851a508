use Rattle.std.proofs.Common.{◌≡◌, ◌≤◌}
use Rattle.ns_replay.proofs.replay.Replay.to.Given as goal
use Rattle.ns_replay.specs.Replay.{gone_to}

abbrev pub invariant-places : goal.invariant-places
invariant-places l = (l.self ≡ gone_to l.fn.self l.self.asked) × (l.self.asked ≤ l.step)
