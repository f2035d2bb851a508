use Rattle.std.proofs.Common.{◌<◌, ◌≤◌, ◌∙◌, ap, arith, get_or, length, subst}
use Rattle.std.proofs.lemmas.List.{take_all}
use Rattle.std.proofs.lemmas.Option.{slice_get-get_or}
use Rattle.ns_actors_calls.specs.Letters.{LettersView}
use Rattle.ns_actors_calls.specs.Shown.{shown}
use Rattle.ns_actors_calls.specs.Posting.{AreReady}
use Rattle.ns_actors_calls.proofs.Ready.{coming_is, coming_unseen, expects_more, expects_none, shown_set}
use Rattle.ns_actors_calls.proofs.posting.expect.Goals as goal

pub boxes-init : goal.boxes-init
boxes-init c = expects_none c.args.letters.now c.args.actors.now

pub returns-in_err-copies-clause-same : goal.returns-in_err-copies-clause-same
returns-in_err-copies-clause-same c = c.boxes.invariant.same

pub returns-in_err-expect_all-clause-same : goal.returns-in_err-expect_all-clause-same
returns-in_err-expect_all-clause-same c =
    let now = c.boxes.actors in
    let number = c.boxes.number in
    let read = c.index-actors-number.result in
    let one = get_or now number read in
    let within : number < length now = omega (arith, c.boxes-test.true, c.boxes.auto.actors) in
    shown_set now number one (record one { letters = c.expect_all.new.self }) (slice_get-get_or now number read within)
    (ap (λ (l : LettersView). shown (record one { letters = l })) c.in_err-expect_all.ensures.err)
    ∙ c.boxes.invariant.same

pub boxes-preserved : goal.boxes-preserved
boxes-preserved c =
    let now = c.boxes.actors in
    let number = c.boxes.number in
    let read = c.index-actors-number.result in
    let one = get_or now number read in
    let letters = c.expect_all.new.self in
    let coming = c.in_ok-copies.copies.items in
    let within : number < length now = omega (arith, c.boxes-test.true, c.boxes.auto.actors) in
    expects_more c.args.letters.now c.args.actors.now now number one (record one { letters = letters }) (slice_get-get_or now number read within) within
    (coming_unseen one letters coming c.in_ok-expect_all.ensures.ok) (coming_is one letters coming c.in_ok-expect_all.ensures.ok ∙ c.in_ok-copies.ensures)
    c.boxes.invariant

pub returns-clause-same : goal.returns-clause-same
returns-clause-same c = c.boxes.invariant.same

pub returns-clause-ready : goal.returns-clause-ready
returns-clause-ready c =
    let all : length c.boxes.actors ≤ c.boxes.number = omega (arith, c.boxes-test.false, c.boxes.auto.actors) in
    subst (AreReady 0 c.args.letters.now) (take_all c.boxes.number c.boxes.actors all) c.boxes.invariant.ready
