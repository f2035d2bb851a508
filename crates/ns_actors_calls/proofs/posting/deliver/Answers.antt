use Rattle.std.proofs.Common.{List, ap, refl, subst}
use Rattle.ns_actors_calls.specs.Letters.{LettersView}
use Rattle.ns_actors.specs.declared.letter.Letter.{Letter}
use Rattle.ns_actors.specs.Turn.{host_number}
use Rattle.ns_actors_calls.specs.Posting.{AreReady}
use Rattle.ns_actors_calls.proofs.Refused.{also_refused}
use Rattle.ns_actors_calls.proofs.Settling.{host_posts, host_stays, one_pushed}
use Rattle.ns_actors_calls.proofs.posting.deliver.Goals as goal

pub returns-in_err-expect-clause-unchanged : goal.returns-in_err-expect-clause-unchanged
returns-in_err-expect-clause-unchanged c =
    let host = c.args.host.now.all in
    also_refused c.from_residual-in_err-expect.result
    (host_stays host host c.args.actors.now c.expect.new.actors c.in_err-expect.ensures.same refl)

pub returns-in_err-put-clause-unchanged : goal.returns-in_err-put-clause-unchanged
returns-in_err-put-clause-unchanged c =
    also_refused c.from_residual-in_err-put.result
    (host_stays c.args.host.now.all c.put.new.self.all c.args.actors.now c.expect.new.actors c.in_ok-expect.ensures.same
    (ap (λ (l : LettersView). l.all) c.in_err-put.ensures.err))

pub returns-clause-posted : goal.returns-clause-posted
returns-clause-posted c =
    let letter : Letter = record { from = host_number; to = c.args.to; sel = c.args.sel.now; arg = c.args.arg } in
    let letters = c.push.new.self.items in
    let none = c.in_ok-letters in
    let made = c.in_ok-letter_of in
    let one = one_pushed none.letters.items letters made.field-0 letter none.ensures.items c.in_ok-push.ensures.items made.ensures in
    let ready = subst (λ (ls : List Letter). AreReady 0 ls c.expect.new.actors) c.as_slice.ensures.value c.in_ok-expect.ensures.ready in
    host_posts letter letters c.args.host.now.all c.put.new.self.all c.args.actors.now c.expect.new.actors c.receive.new.actors one
    c.in_ok-expect.ensures.same (c.receive.ensures letters ready) (ap (λ (l : LettersView). l.all) c.in_ok-put.ensures.ok)
