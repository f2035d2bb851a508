use Rattle.ns_session.specs.Reached.{left_of}
use Rattle.ns_session.proofs.Rounding.{SoFar}
use Rattle.ns_session.proofs.rounds.run_round_robin.Given as goal

-- so many rounds were made
abbrev pub invariant-rounds : goal.invariant-rounds
invariant-rounds l = SoFar l.quantum l.fn.session l.session

-- each lowers what is left to do
abbrev pub decreases-rounds : goal.decreases-rounds
decreases-rounds l = left_of l.session.members
