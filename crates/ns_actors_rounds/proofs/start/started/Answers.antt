use Rattle.std.proofs.Common.{◌≡◌, ◌∙◌, ap, arith, Err}
use Rattle.ns_actors.specs.Rounds.{started}
use Rattle.ns_actors_rounds.proofs.Starting.{one_started, started_count}
use Rattle.ns_actors_rounds.proofs.start.started.Goals as goal

pub actors-init : goal.actors-init
actors-init c = c.new-actors.ensures

pub unreachable-unreachable : goal.unreachable-unreachable
unreachable-unreachable c =
    let full = c.in-Err-Full.ensures.full.0 (ap Err c.in-Err-Full.field-0-is) in
    let count = started_count c.args.code.now c.args.limits c.actors.number c.actors.actors c.actors.invariant in
    omega (arith, full, count, c.actors-test.true, c.requires.few)

pub actors-preserved : goal.actors-preserved
actors-preserved c =
    one_started c.args.code.now c.in_ok-own.own c.args.limits c.actors.number c.actors.actors c.add.new.self c.in_ok-own.ensures c.in-Ok.ensures.added
    c.actors.invariant

pub returns : goal.returns
returns c =
    let all : c.actors.number ≡ c.args.count = omega (arith, c.actors-test.false, c.actors.auto.number-end) in
    c.actors.invariant ∙ ap (started c.args.code.now c.args.limits) all
