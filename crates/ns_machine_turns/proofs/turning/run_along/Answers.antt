use Rattle.std.proofs.Common.{refl, arith}
use Rattle.ns_machine_core.specs.declared.state.Next.TheVariants.{On, Waits, Ended}
use Rattle.ns_machine_turns.specs.Turning.{HasGone}
use Rattle.ns_machine_turns.proofs.Along.{none_gone, gone_far}
use Rattle.ns_machine_turns.proofs.turning.run_along.Goals as goal

pub along-init : goal.along-init
along-init c =
    let some = c.requires.some in
    record {
      along = none_gone c.args.code.now c.args.plan.now c.args.own c.args.left c.args.core.now (On c.args.at) c.requires.runs;
      rest = omega (arith, some);
      some = some;
    }

-- ---- straight on in a body, and one move more

pub returns-then-sure-eq0 : goal.returns-then-sure-eq0
returns-then-sure-eq0 c =
    gone_far c.args.code.now c.args.plan.now c.args.own c.args.left c.along.rest c.args.core.now c.along.core c.go_straight.new.core (On c.args.at)
    (On c.along.here) (On c.in-On.to) c.along.invariant.rest c.along.invariant.along refl c.in-On.ensures.gone

pub along-preserved-in-On : goal.along-preserved-in-On
along-preserved-in-On c =
    let gone : HasGone c.args.code.now c.args.plan.now c.args.own c.args.left c.args.core.now (On c.args.at) c.go_straight.new.core (On c.in-On.to) =
    gone_far c.args.code.now c.args.plan.now c.args.own c.args.left c.along.rest c.args.core.now c.along.core c.go_straight.new.core (On c.args.at)
    (On c.along.here) (On c.in-On.to) c.along.invariant.rest c.along.invariant.along refl c.in-On.ensures.gone in
    let rest = c.along.invariant.rest in
    let few = c.in-On.ensures.few in
    let before = c.along.invariant.along.onward in
    let onward = c.in-On.ensures.gone.along.onward in
    record { along = gone.along; rest = omega (arith, rest, few, before, onward); some = omega (arith, c.if-sure-eq0.false) }

pub returns-in-Waits : goal.returns-in-Waits
returns-in-Waits c =
    gone_far c.args.code.now c.args.plan.now c.args.own c.args.left c.along.rest c.args.core.now c.along.core c.go_straight.new.core (On c.args.at)
    (On c.along.here) (Waits c.in-Waits.to) c.along.invariant.rest c.along.invariant.along refl c.in-Waits.ensures.gone

pub returns-in-Ended : goal.returns-in-Ended
returns-in-Ended c =
    gone_far c.args.code.now c.args.plan.now c.args.own c.args.left c.along.rest c.args.core.now c.along.core c.go_straight.new.core (On c.args.at)
    (On c.along.here) Ended c.along.invariant.rest c.along.invariant.along refl c.in-Ended.ensures.gone

-- ---- the next action of a method of the kernel

pub returns-then-rest-le2 : goal.returns-then-rest-le2
returns-then-rest-le2 c =
    gone_far c.args.code.now c.args.plan.now c.args.own c.args.left c.along.rest c.args.core.now c.along.core c.act_along.new.core (On c.args.at)
    (On c.along.here) (On c.in-On-act_along.to) c.along.invariant.rest c.along.invariant.along refl c.in-On-act_along.ensures.gone

pub along-preserved : goal.along-preserved
along-preserved c =
    let gone : HasGone c.args.code.now c.args.plan.now c.args.own c.args.left c.args.core.now (On c.args.at) c.act_along.new.core (On c.in-On-act_along.to) =
    gone_far c.args.code.now c.args.plan.now c.args.own c.args.left c.along.rest c.args.core.now c.along.core c.act_along.new.core (On c.args.at)
    (On c.along.here) (On c.in-On-act_along.to) c.along.invariant.rest c.along.invariant.along refl c.in-On-act_along.ensures.gone in
    let rest = c.along.invariant.rest in
    let few = c.act_along.ensures.few in
    let before = c.along.invariant.along.onward in
    let onward = gone.along.onward in
    record { along = gone.along; rest = omega (arith, rest, few, before, onward); some = omega (arith, c.if-rest-le2.false) }

pub returns-in-Waits-act_along : goal.returns-in-Waits-act_along
returns-in-Waits-act_along c =
    gone_far c.args.code.now c.args.plan.now c.args.own c.args.left c.along.rest c.args.core.now c.along.core c.act_along.new.core (On c.args.at)
    (On c.along.here) (Waits c.in-Waits-act_along.to) c.along.invariant.rest c.along.invariant.along refl c.in-Waits-act_along.ensures.gone

pub returns-in-Ended-act_along : goal.returns-in-Ended-act_along
returns-in-Ended-act_along c =
    gone_far c.args.code.now c.args.plan.now c.args.own c.args.left c.along.rest c.args.core.now c.along.core c.act_along.new.core (On c.args.at)
    (On c.along.here) Ended c.along.invariant.rest c.along.invariant.along refl c.in-Ended-act_along.ensures.gone
