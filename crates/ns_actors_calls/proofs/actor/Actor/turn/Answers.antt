use Rattle.ns_actors_calls.proofs.Running.{holds_some}
use Rattle.ns_actors_calls.proofs.actor.Actor.turn.Goals as goal

pub handled-requires : goal.handled-requires
handled-requires c = (c.args.k, holds_some c.args.k c.args.count c.args.self.now c.in-Holding.field-0 c.in-Holding.is c.requires)
