use Rattle.std.proofs.Common.{◌<◌, ◌∙◌, List, arith, get_or, length, subst}
use Rattle.std.proofs.lemmas.Option.{slice_get-get_or}
use Rattle.ns_actors.specs.declared.letter.Letter.{Letter}
use Rattle.ns_actors_calls.specs.Posting.{AreReady}
use Rattle.ns_actors_calls.proofs.Ready.{ready_set, shown_set}
use Rattle.ns_actors_calls.proofs.Refused.{also_refused}
use Rattle.ns_actors_calls.proofs.Settling.{letters_post}
use Rattle.ns_actors_calls.proofs.posting.post_from.Goals as goal

pub returns-in_err-post-clause-unchanged : goal.returns-in_err-post-clause-unchanged
returns-in_err-post-clause-unchanged c =
    let now = c.expect.new.actors in
    let k = c.args.k in
    let read = c.index-actors-k.result in
    let within : k < length now = omega (arith, c.requires.there, c.expect.auto.actors) in
    also_refused c.from_residual-in_err-post.result
    (shown_set now k (get_or now k read) c.post.new.self (slice_get-get_or now k read within) c.in_err-post.ensures.unchanged ∙ c.in_ok-expect.ensures.same)

pub returns-clause-posted : goal.returns-clause-posted
returns-clause-posted c =
    let now = c.expect.new.actors in
    let k = c.args.k in
    let read = c.index-actors-k.result in
    let one = get_or now k read in
    let letters = c.args.letters.items in
    let within : k < length now = omega (arith, c.requires.there, c.expect.auto.actors) in
    let got = slice_get-get_or now k read within in
    let ready = subst (λ (ls : List Letter). AreReady 0 ls now) c.as_slice.ensures.value c.in_ok-expect.ensures.ready in
    c.receive.ensures letters (ready_set 0 k letters now one c.post.new.self got c.in_ok-post.ensures.letters ready)
    ∙ letters_post k c.args.actors.now now one c.post.new.self c.args.behaviour letters got c.in_ok-expect.ensures.same c.in_ok-post.ensures.posted
