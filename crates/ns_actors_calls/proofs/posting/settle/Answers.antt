use Rattle.std.proofs.Common.{get_or, length, slice_get}
use Rattle.std.proofs.lemmas.Option.{slice_get-get_or}
use Rattle.ns_actors_calls.specs.Shown.{shown}
use Rattle.ns_actors_calls.specs.Steps.{HoldsOutbox}
use Rattle.ns_actors_calls.proofs.Lists.{all_got}
use Rattle.ns_actors_calls.proofs.Settling.{none_settles}
use Rattle.ns_actors_calls.proofs.posting.settle.Goals as goal

pub settle_outbox-requires-clause-holds : goal.settle_outbox-requires-clause-holds
settle_outbox-requires-clause-holds c =
    let actors = c.args.actors.now in
    let k = c.args.k in
    let one = get_or actors k c.index-actors-k.result in
    let got = slice_get-get_or actors k c.index-actors-k.result c.requires.there in
    all_got (λ actor. HoldsOutbox k (length actors) c.in-Some.behaviour (shown actor)) (slice_get actors k) one got
    (c.in-Some.ensures.some k (length actors) (c.requires.is one got))

pub returns-in-None-clause-settled : goal.returns-in-None-clause-settled
returns-in-None-clause-settled c =
    let actors = c.args.actors.now in
    let k = c.args.k in
    let read = c.index-actors-k.result in
    none_settles k actors (get_or actors k read) (slice_get-get_or actors k read c.requires.there) (c.in-None.ensures.none (cc))
