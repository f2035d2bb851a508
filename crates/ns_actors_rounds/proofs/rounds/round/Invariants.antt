use Rattle.ns_actors_rounds.proofs.Rounding.{IsUnderway}
use Rattle.ns_actors_rounds.proofs.rounds.round.Given as goal

-- the round is underway
abbrev pub invariant-actors : goal.invariant-actors
invariant-actors l = IsUnderway 1000 l.initial.actors l.actors l.k
