use Rattle.std.proofs.Common.{◌≡◌, ◌<◌, ap, arith, length, Err}
use Rattle.ns_actors_rounds.proofs.Rounding.{all_turned, not_begun, one_turned}
use Rattle.ns_actors_rounds.proofs.rounds.round.Goals as goal

pub actors-init : goal.actors-init
actors-init c = not_begun 1000 c.args.actors.now

pub unreachable-unreachable : goal.unreachable-unreachable
unreachable-unreachable c =
    let past = c.in-Err-NoSuch.ensures.none.0 (ap Err c.in-Err-NoSuch.field-0-is) in
    omega (arith, past, c.actors-test.true, c.count-k-end.ensures.count, c.actors.invariant.count)

pub actors-preserved : goal.actors-preserved
actors-preserved c =
    let within : c.actors.k < length c.args.actors.now.actors = omega (arith, c.actors-test.true, c.count-k-end.ensures.count) in
    one_turned 1000 c.args.actors.now c.actors.actors c.turn.new.self c.actors.k within (c.in-Ok.ensures.turn.0) c.actors.invariant

pub returns : goal.returns
returns c =
    let all : c.actors.k ≡ length c.args.actors.now.actors
    = omega (arith, c.actors-test.false, c.actors.auto.k-end, c.count-k-end.ensures.count) in
    all_turned 1000 c.args.actors.now c.actors.actors c.actors.k all c.actors.invariant
