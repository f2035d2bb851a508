use Rattle.std.proofs.Common.{◌∙◌, ap, get_or, is_some, length}
use Rattle.std.proofs.lemmas.Option.{slice_get-get_or}
use Rattle.std.proofs.lemmas.Result.{on_ok_weaker}
use Rattle.ns_actors_calls.proofs.Settling.{outbox_settles}
use Rattle.ns_actors_calls.proofs.posting.settle_outbox.Goals as goal

pub held_letters-requires : goal.held_letters-requires
held_letters-requires c =
    let actors = c.args.actors.now in
    let k = c.args.k in
    let read = c.index-actors-k.result in
    ap is_some (c.requires.holds (get_or actors k read) (slice_get-get_or actors k read c.requires.there)).outbox_is

pub returns-clause-settled : goal.returns-clause-settled
returns-clause-settled c =
    let actors = c.args.actors.now in
    let k = c.args.k in
    let one = get_or actors k c.index-actors-k.result in
    let got = slice_get-get_or actors k c.index-actors-k.result c.requires.there in
    on_ok_weaker c.post_from.result
    (λ posted. posted ∙ outbox_settles k (length actors) actors one c.args.behaviour c.in_ok-letters.letters.items got (c.requires.holds one got)
    c.in_ok-letters.ensures) c.post_from.ensures.posted
