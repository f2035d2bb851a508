use Rattle.std.proofs.Common.{◌≡◌, ◌∙◌, arith, length, vec_len}
use Rattle.ns_actors_calls.proofs.Told.{count_seen, length_shown}
use Rattle.ns_actors_calls.proofs.actors.Actors.count.Goals as goal

pub returns-clause-count : goal.returns-clause-count
returns-clause-count c =
    let actors = c.self.inside.actors in
    let size : vec_len actors ≡ length actors.items = omega arith in
    c.len.ensures ∙ (size ∙ count_seen c.self.inside.host.all actors.items c.args.self.now c.self.view_is)

pub returns-clause-few : goal.returns-clause-few
returns-clause-few c = omega (arith, c.len.ensures, c.self.invariant.few, length_shown c.self.inside.actors.items)
