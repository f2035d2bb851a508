use Rattle.ns_actors_rounds.specs.Left.{left}
use Rattle.ns_actors_rounds.proofs.Resting.{HavePlayed}
use Rattle.ns_actors_rounds.proofs.rounds.play.Given as goal

-- so many rounds lead there
abbrev pub invariant-rounds : goal.invariant-rounds
invariant-rounds l = HavePlayed l.initial.actors l.actors

abbrev pub decreases-rounds : goal.decreases-rounds
decreases-rounds l = left l.actors
