use Rattle.std.proofs.Common.{◌∙◌}
use Rattle.ns_actors_calls.specs.Shown.{stop_of}
use Rattle.ns_actors_calls.proofs.Lists.{looked_past, looked_up}
use Rattle.ns_actors_calls.proofs.Told.{none_then, then_told}
use Rattle.ns_actors_calls.proofs.actors.Actors.stopped.Goals as goal

pub returns-in-Some : goal.returns-in-Some
returns-in-Some c =
    let actors = c.self.inside.actors.items in
    let actor = c.in-Some.actor.now in
    let got = looked_up c.deref.result.now actors c.args.k actor c.deref.ensures.value c.in-Some.ensures.lookup.0 c.in-Some.ensures.lookup.1 in
    c.stop_reason.ensures ∙ then_told c.self.inside.host.all actors c.args.self.now c.args.k c.self.view_is stop_of actor got

pub returns-in-None : goal.returns-in-None
returns-in-None c =
    let actors = c.self.inside.actors.items in
    let none = looked_past c.deref.result.now actors c.args.k c.deref.ensures.value c.in-None.ensures.lookup.3 in
    none_then c.self.inside.host.all actors c.args.self.now c.args.k c.self.view_is stop_of none
