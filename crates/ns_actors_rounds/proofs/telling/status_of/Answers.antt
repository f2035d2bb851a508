use Rattle.std.proofs.Common.{◌≡◌, ◌<◌, arith, length}
use Rattle.ns_actors_rounds.proofs.Texts.{all_done, none_stopped, one_stopped}
use Rattle.ns_actors_rounds.proofs.telling.status_of.Goals as goal

pub returns-in-Some : goal.returns-in-Some
returns-in-Some c =
    let actors = c.args.actors.now.actors in
    let within : c.actors.number < length actors = omega (arith, c.actors-test.true, c.count-number-end.ensures.count) in
    one_stopped actors c.actors.number c.in-Some.field-0 within c.in-Some.ensures c.actors.invariant

pub actors-preserved : goal.actors-preserved
actors-preserved c =
    let actors = c.args.actors.now.actors in
    let within : c.actors.number < length actors = omega (arith, c.actors-test.true, c.count-number-end.ensures.count) in
    none_stopped actors c.actors.number within c.in-None.ensures c.actors.invariant

pub returns : goal.returns
returns c =
    let actors = c.args.actors.now.actors in
    let all : c.actors.number ≡ length actors = omega (arith, c.actors-test.false, c.actors.auto.number-end, c.count-number-end.ensures.count) in
    all_done actors c.actors.number all c.actors.invariant
