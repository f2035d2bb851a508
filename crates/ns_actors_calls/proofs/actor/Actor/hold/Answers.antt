use Rattle.std.proofs.Common.{◌∙◌, Some, None}
use Rattle.ns_actors_calls.specs.Shown.{shown}
use Rattle.ns_actors_calls.specs.Steps.{outbox_at}
use Rattle.ns_actors_calls.proofs.Running.{bad_is, held_is, outbox_sized}
use Rattle.ns_actors_calls.proofs.actor.Actor.hold.Goals as goal

pub returns-in-Some : goal.returns-in-Some
returns-in-Some c =
    let actor = shown c.args.self.now in
    held_is c.args.behaviour actor (outbox_at c.args.k c.args.count actor) c.in-Some.size
    (outbox_sized c.args.k c.args.count actor c.args.value c.code.result.now c.world.result.now.world (Some c.in-Some.size) c.requires
    c.code.ensures.code c.world.ensures (c.in-Some.ensures c.args.k))

pub returns-in-None : goal.returns-in-None
returns-in-None c =
    let actor = shown c.args.self.now in
    c.stop.ensures
    ∙ bad_is c.args.behaviour actor (outbox_at c.args.k c.args.count actor)
    (outbox_sized c.args.k c.args.count actor c.args.value c.code.result.now c.world.result.now.world None c.requires
    c.code.ensures.code c.world.ensures (c.in-None.ensures c.args.k))
