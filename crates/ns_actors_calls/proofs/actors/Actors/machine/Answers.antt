use Rattle.ns_actors_calls.proofs.Lists.{looked_past, looked_up}
use Rattle.ns_actors_calls.proofs.Told.{none_told, told_at}
use Rattle.ns_actors_calls.proofs.actors.Actors.machine.Goals as goal
use Rattle.ns_actors_calls.specs.Seen.{machine_of}

pub returns-in-Some : goal.returns-in-Some
returns-in-Some c =
    let actors = c.self.inside.actors.items in
    let actor = c.in-Some.actor.now in
    let got = looked_up c.deref.result.now actors c.args.k actor c.deref.ensures.value c.in-Some.ensures.lookup.0 c.in-Some.ensures.lookup.1 in
    told_at c.self.inside.host.all actors c.args.self.now c.args.k c.self.view_is machine_of actor got

pub returns-in-None : goal.returns-in-None
returns-in-None c =
    let actors = c.self.inside.actors.items in
    let none = looked_past c.deref.result.now actors c.args.k c.deref.ensures.value c.in-None.ensures.lookup.3 in
    none_told c.self.inside.host.all actors c.args.self.now c.args.k c.self.view_is machine_of none
