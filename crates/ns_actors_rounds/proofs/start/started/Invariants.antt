use Rattle.std.proofs.Common.{◌≡◌}
use Rattle.ns_actors.specs.Rounds.{started}
use Rattle.ns_actors_rounds.proofs.start.started.Given as goal

-- so many have started
abbrev pub invariant-actors : goal.invariant-actors
invariant-actors l = l.actors ≡ started l.code l.limits l.number
