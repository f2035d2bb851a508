use Rattle.std.proofs.Common.{◌∙◌, List, ap, arith, subst, sym}
use Rattle.std.proofs.lemmas.List.{with_items_is}
use Rattle.std.proofs.lemmas.Result.{IfOk-weaker, on_err_weaker}
use Rattle.ns_actors.specs.Stated.{AreActors}
use Rattle.ns_actors.specs.Turn.{held_after}
use Rattle.ns_actors_calls.specs.declared.actor.Actor.{Actor}
use Rattle.ns_actors_calls.specs.Seen.{seen}
use Rattle.ns_actors_calls.proofs.Keeping.{has_turned_as, lent_are, others_as, others_receive, turned_or_held}
use Rattle.ns_actors_calls.proofs.actors.Actors.turn_there.Goals as goal

pub turn_of-requires-clause-are : goal.turn_of-requires-clause-are
turn_of-requires-clause-are c =
    let host = c.self.inside.host.all in
    (host, lent_are host c.deref_mut.result.now c.self.inside.actors.items c.deref_mut.ensures.value c.self.invariant)

pub invariant_of-self : goal.invariant_of-self
invariant_of-self c =
    let old = c.self.inside in
    let host = old.host.all in
    let lent = c.deref_mut.result.now in
    let new = c.turn_of.new.actors in
    let back = with_items_is old.actors new (omega (arith, c.turn_of.auto.actors, c.deref_mut.ensures.len)) in
    subst (λ (xs : List Actor). AreActors (seen host xs)) (sym back)
    (turned_or_held c.turn_of.result c.args.k c.args.steps (seen host lent) (seen host new) c.actors_stay_actors.ensures.turns
    c.actors_stay_actors.ensures.held (lent_are host lent old.actors.items c.deref_mut.ensures.value c.self.invariant)
    (IfOk-weaker c.turn_of.result _ _ (λ _ turns. turns host) c.turn_of.ensures.turn) (on_err_weaker c.turn_of.result (λ held. held host) c.turn_of.ensures.held))

pub returns-clause-turn : goal.returns-clause-turn
returns-clause-turn c =
    let old = c.self.inside in
    let host = old.host.all in
    let lent = c.deref_mut.result.now in
    let new = c.turn_of.new.actors in
    let back = with_items_is old.actors new (omega (arith, c.turn_of.auto.actors, c.deref_mut.ensures.len)) in
    let after = ap (λ (xs : List Actor). seen host xs) (sym back) in
    let before = ap (λ (xs : List Actor). seen host xs) c.deref_mut.ensures.value ∙ c.self.view_is in
    IfOk-weaker c.turn_of.result _ _
    (λ answer turns. has_turned_as c.args.k c.args.steps answer (seen host lent) c.args.self.now (seen host new) _ before after (turns host))
    c.turn_of.ensures.turn

pub returns-clause-held : goal.returns-clause-held
returns-clause-held c =
    let old = c.self.inside in
    let host = old.host.all in
    let new = c.turn_of.new.actors in
    let back = with_items_is old.actors new (omega (arith, c.turn_of.auto.actors, c.deref_mut.ensures.len)) in
    let before = ap (λ (xs : List Actor). seen host xs) c.deref_mut.ensures.value ∙ c.self.view_is in
    on_err_weaker c.turn_of.result
    (λ held. ap (λ (xs : List Actor). seen host xs) back ∙ (held host ∙ ap (held_after c.args.k c.args.steps) before)) c.turn_of.ensures.held

pub returns-clause-others : goal.returns-clause-others
returns-clause-others c =
    let old = c.self.inside in
    let host = old.host.all in
    let lent = c.deref_mut.result.now in
    let new = c.turn_of.new.actors in
    let back = with_items_is old.actors new (omega (arith, c.turn_of.auto.actors, c.deref_mut.ensures.len)) in
    let after = ap (λ (xs : List Actor). seen host xs) (sym back) in
    let before = ap (λ (xs : List Actor). seen host xs) c.deref_mut.ensures.value ∙ c.self.view_is in
    others_as c.args.k (seen host lent) c.args.self.now (seen host new) _ before after
    (others_receive c.turn_of.result c.args.k c.args.steps (seen host lent) (seen host new) c.turns_keep_others.ensures
    (IfOk-weaker c.turn_of.result _ _ (λ _ turns. turns host) c.turn_of.ensures.turn) (on_err_weaker c.turn_of.result (λ held. held host) c.turn_of.ensures.held))
