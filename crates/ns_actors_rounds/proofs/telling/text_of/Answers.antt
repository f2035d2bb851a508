use Rattle.std.proofs.Common.{◌≡◌, ◌<◌, ◌++◌, ℕ, List, ap, arith, length}
use Rattle.ns_actors.specs.Rounds.{text_from}
use Rattle.ns_actors_rounds.proofs.Texts.{text_more, text_whole}
use Rattle.ns_actors_rounds.proofs.telling.text_of.Goals as goal

pub actors-init : goal.actors-init
actors-init c = ap (λ (text : List ℕ). text ++ text_from c.args.files.now 0 c.args.actors.now.actors) c.new-text.ensures.items

pub actors-preserved : goal.actors-preserved
actors-preserved c =
    let actors = c.args.actors.now.actors in
    let files = c.args.files.now in
    let within : c.actors.number < length actors = omega (arith, c.actors-test.true, c.count-number-end.ensures.count) in
    text_more files actors c.actors.number c.actors.text.items c.put_actor.new.text.items (text_from files 0 actors) within c.in_ok-put_actor.ensures
    c.actors.invariant

pub returns : goal.returns
returns c =
    let actors = c.args.actors.now.actors in
    let files = c.args.files.now in
    let all : c.actors.number ≡ length actors = omega (arith, c.actors-test.false, c.actors.auto.number-end, c.count-number-end.ensures.count) in
    text_whole files actors c.actors.number c.actors.text.items (text_from files 0 actors) all c.actors.invariant
