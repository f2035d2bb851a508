use Rattle.std.proofs.Common.{◌∙◌, List, ap, map}
use Rattle.ns_actors.specs.Rounds.{all_rest, at_rest}
use Rattle.ns_actors.specs.Turn.{ActorsView}
use Rattle.ns_actors_calls.specs.declared.actor.Actor.{Actor}
use Rattle.ns_actors_calls.specs.Shown.{shown}
use Rattle.ns_actors_calls.proofs.actors.Actors.at_rest.Goals as goal

pub returns : goal.returns
returns c =
    c.all_rest.ensures
    ∙ (ap (λ (actors : List Actor). all_rest (map shown actors)) c.deref.ensures.value ∙ ap (λ (view : ActorsView). at_rest view) c.self.view_is)
