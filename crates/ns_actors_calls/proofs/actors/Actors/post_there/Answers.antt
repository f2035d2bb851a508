use Rattle.std.proofs.Common.{◌<◌, ◌∙◌, List, ap, arith, length, map, subst, sym}
use Rattle.std.proofs.lemmas.List.{with_items_is}
use Rattle.std.proofs.lemmas.Result.{on_err_weaker, on_ok_weaker}
use Rattle.ns_actors.specs.declared.letter.Letter.{Letter}
use Rattle.ns_actors.specs.Stated.{AreActors}
use Rattle.ns_actors.specs.Turn.{host_number, posted}
use Rattle.ns_actors_calls.specs.declared.actor.Actor.{Actor}
use Rattle.ns_actors_calls.specs.Shown.{shown}
use Rattle.ns_actors_calls.specs.Seen.{seen}
use Rattle.ns_actors_calls.proofs.Keeping.{lent_are, posted_or_kept}
use Rattle.ns_actors_calls.proofs.Told.{count_seen, length_shown}
use Rattle.ns_actors_calls.proofs.actors.Actors.post_there.Goals as goal

pub deliver-requires : goal.deliver-requires
deliver-requires c = omega (arith, c.deref_mut.ensures.len, c.self.invariant.few, length_shown c.self.inside.actors.items)

pub invariant_of-self : goal.invariant_of-self
invariant_of-self c =
    let old = c.self.inside in
    let host = old.host.all in
    let lent = c.deref_mut.result.now in
    let new = c.deliver.new in
    let back = with_items_is old.actors new.actors (omega (arith, c.deliver.auto.actors, c.deref_mut.ensures.len)) in
    let counted = count_seen host old.actors.items c.args.self.now c.self.view_is in
    let within : c.args.to < length (map shown lent)
    = omega (arith, c.requires.there, counted, c.deref_mut.ensures.len, length_shown lent) in
    subst (λ (xs : List Actor). AreActors (seen new.host.all xs)) (sym back)
    (posted_or_kept c.deliver.result c.args.to c.args.sel.now c.args.arg (seen host lent) (seen new.host.all new.actors)
    c.actors_stay_actors.ensures.posted c.requires.selector within (lent_are host lent old.actors.items c.deref_mut.ensures.value c.self.invariant)
    c.deliver.ensures.posted c.deliver.ensures.unchanged)

pub returns-clause-posted : goal.returns-clause-posted
returns-clause-posted c =
    let old = c.self.inside in
    let new = c.deliver.new in
    let letter : Letter = record { from = host_number; to = c.args.to; sel = c.args.sel.now; arg = c.args.arg } in
    let back = with_items_is old.actors new.actors (omega (arith, c.deliver.auto.actors, c.deref_mut.ensures.len)) in
    let lent_is = ap (λ (xs : List Actor). seen old.host.all xs) c.deref_mut.ensures.value ∙ c.self.view_is in
    on_ok_weaker c.deliver.result (λ posts. ap (λ (xs : List Actor). seen new.host.all xs) back ∙ (posts ∙ ap (posted letter) lent_is))
    c.deliver.ensures.posted

pub returns-clause-unchanged : goal.returns-clause-unchanged
returns-clause-unchanged c =
    let old = c.self.inside in
    let new = c.deliver.new in
    let back = with_items_is old.actors new.actors (omega (arith, c.deliver.auto.actors, c.deref_mut.ensures.len)) in
    let lent_is = ap (λ (xs : List Actor). seen old.host.all xs) c.deref_mut.ensures.value ∙ c.self.view_is in
    on_err_weaker c.deliver.result (λ same. ap (λ (xs : List Actor). seen new.host.all xs) back ∙ (same ∙ lent_is)) c.deliver.ensures.unchanged
