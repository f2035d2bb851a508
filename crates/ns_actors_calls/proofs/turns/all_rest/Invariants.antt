use Rattle.std.proofs.Common.{◌≡◌, drop, map}
use Rattle.ns_actors.specs.Rounds.{all_rest}
use Rattle.ns_actors_calls.specs.Shown.{shown}
use Rattle.ns_actors_calls.proofs.turns.all_rest.Given as goal

-- whether those that are left rest is whether all do
abbrev pub invariant-actors : goal.invariant-actors
invariant-actors l = all_rest (map shown (drop l.actor-index l.actors)) ≡ all_rest (map shown l.actors)
