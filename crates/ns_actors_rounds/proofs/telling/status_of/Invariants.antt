use Rattle.std.proofs.Common.{◌≡◌, drop}
use Rattle.ns_actors.specs.Rounds.{status_of}
use Rattle.ns_actors_rounds.proofs.telling.status_of.Given as goal

-- the status of those that are left is that of all
abbrev pub invariant-actors : goal.invariant-actors
invariant-actors l = status_of (drop l.number l.actors.actors) ≡ status_of l.actors.actors
