use Rattle.std.proofs.Common.{ap, ◌∙◌}
use Rattle.ns_session.specs.Turned.{turned}
use Rattle.ns_actors.specs.Actor.{ActorView}
use Rattle.ns_actors.specs.Turn.{ran}
use Rattle.ns_actors_calls.proofs.Running.{run_shown}
use Rattle.ns_actors_calls.proofs.actor.Actor.run_on.Goals as goal

pub returns : goal.returns
returns c =
    let actor = c.args.self.now in
    c.ran.ensures
    ∙ ap (λ (view : ActorView). ran c.args.k c.args.count view)
    (run_shown actor c.run.new.machine (turned actor.machine.code c.args.steps actor.machine.state) c.requires c.run.ensures)
