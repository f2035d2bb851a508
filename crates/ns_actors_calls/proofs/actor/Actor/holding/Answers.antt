use Rattle.ns_actors_calls.proofs.Running.{holds_from}
use Rattle.ns_actors_calls.proofs.actor.Actor.holding.Goals as goal

pub returns-in-Holding-clause-some : goal.returns-in-Holding-clause-some
returns-in-Holding-clause-some c k count = λ is. holds_from k count c.args.self.now c.in-Holding.held c.in-Holding.is is
