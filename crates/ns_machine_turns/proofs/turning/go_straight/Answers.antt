use Rattle.std.proofs.Common.{◌-◌, ◌<◌, ◌∙◌, refl, arith, sym, subst}
use Rattle.ns_machine_frames.specs.declared.registers.Registers.{Registers}
use Rattle.ns_machine_core.specs.declared.state.Next.TheVariants.{On}
use Rattle.ns_machine_turns.specs.Turning.{HasGone, RunsBy}
use Rattle.ns_machine_turns.specs.Ways.{HasLed}
use Rattle.ns_machine_turns.specs.declared.way.Way.{Way}
use Rattle.ns_machine_turns.specs.declared.way.Way.TheVariants as way
use Rattle.ns_machine_turns.proofs.Along.{none_gone, body_gone, body_falls, on_top, turned_falls, turned_led, way_led}
use Rattle.ns_machine_turns.proofs.Untouched.{untouched_along, untouched_far, untouched_steps}
use Rattle.ns_machine_turns.proofs.Fetched.{body_has_step, few_steps, stepped_back}
use Rattle.ns_machine_turns.proofs.turning.go_straight.Goals as goal

pub steps_of-steps-requires-clause-there : goal.steps_of-steps-requires-clause-there
steps_of-steps-requires-clause-there c =
    (body_has_step c.args.code.now c.requires.runs.can.grants c.args.core.now c.args.at c.args.body c.requires.runs.can.ready.valid c.requires.body
    (c.running_bodies_have_steps.ensures c.args.code.now)).body_there

pub row-requires-clause-there : goal.row-requires-clause-there
row-requires-clause-there c =
    (body_has_step c.args.code.now c.requires.runs.can.grants c.args.core.now c.args.at c.args.body c.requires.runs.can.ready.valid c.requires.body
    (c.running_bodies_have_steps.ensures c.args.code.now)).body_there

-- the number of the next step is small
pub overflow_add-behind : goal.overflow_add-behind
overflow_add-behind c =
    let runs = c.straight.invariant.along.runs in
    let there =
    (body_has_step c.args.code.now runs.can.grants c.straight.core c.straight.here c.args.body runs.can.ready.valid c.straight.invariant.runs
    (c.running_bodies_have_steps.ensures c.args.code.now)).next_there in
    let few = few_steps c.args.code.now c.args.body runs.prepared.of_code.fits in
    omega (arith, there, few)

pub straight-init : goal.straight-init
straight-init c =
    let some = c.requires.some in
    record {
      along = none_gone c.args.code.now c.args.plan.now c.args.own c.args.left c.args.core.now (On c.args.at) c.requires.runs;
      rest = omega (arith, some);
      some = some;
      runs = c.requires.body;
    }

-- ---- straight on, with no step charged

pub straight-smaller-in-Straight : goal.straight-smaller-in-Straight
straight-smaller-in-Straight c =
    body_falls c.args.code.now (c.moves_go_along.ensures c.args.code.now) c.args.plan.now c.args.own c.straight.core c.go_quickly.new.core c.straight.here
    (On c.in-Straight.to) c.straight.invariant.along.runs c.in-Straight.ensures.moves

pub straight-preserved-in-Straight : goal.straight-preserved-in-Straight
straight-preserved-in-Straight c =
    let gone = body_gone c.args.code.now (c.moves_go_along.ensures c.args.code.now) c.args.plan.now c.args.own c.args.left c.straight.rest c.args.core.now
    c.straight.core c.go_quickly.new.core c.args.at c.straight.here (On c.in-Straight.to) c.straight.invariant.some c.straight.invariant.rest
    c.straight.invariant.along c.in-Straight.ensures.moves in
    let stays = c.in-Straight.ensures.stays c.args.body c.straight.invariant.runs in
    let rest = c.straight.invariant.rest in
    let same = stays.steps in
    record {
      along = gone.along;
      rest = omega (arith, rest, same);
      some = c.straight.invariant.some;
      runs = stays.runs;
    }

-- ---- straight on, with one charged

pub returns-then-rest-eq0 : goal.returns-then-rest-eq0
returns-then-rest-eq0 c =
    record {
      gone = body_gone c.args.code.now (c.moves_go_along.ensures c.args.code.now) c.args.plan.now c.args.own c.args.left c.straight.rest c.args.core.now
          c.straight.core c.go_quickly.new.core c.args.at c.straight.here (On c.in-Charged.to) c.straight.invariant.some c.straight.invariant.rest
          c.straight.invariant.along c.in-Charged.ensures.moves;
      few = omega arith;
    }

pub straight-smaller-in-Charged : goal.straight-smaller-in-Charged
straight-smaller-in-Charged c =
    body_falls c.args.code.now (c.moves_go_along.ensures c.args.code.now) c.args.plan.now c.args.own c.straight.core c.go_quickly.new.core c.straight.here
    (On c.in-Charged.to) c.straight.invariant.along.runs c.in-Charged.ensures.moves

pub straight-preserved-in-Charged : goal.straight-preserved-in-Charged
straight-preserved-in-Charged c =
    let gone = body_gone c.args.code.now (c.moves_go_along.ensures c.args.code.now) c.args.plan.now c.args.own c.args.left c.straight.rest c.args.core.now
    c.straight.core c.go_quickly.new.core c.args.at c.straight.here (On c.in-Charged.to) c.straight.invariant.some c.straight.invariant.rest
    c.straight.invariant.along c.in-Charged.ensures.moves in
    let stays = c.in-Charged.ensures.stays c.args.body c.straight.invariant.runs in
    let rest = c.straight.invariant.rest in
    let some = c.straight.invariant.some in
    let more = stays.steps in
    let onward = c.straight.invariant.along.onward in
    record {
      along = gone.along;
      rest = omega (arith, rest, more, onward);
      some = omega (arith, some, c.if-rest-eq0.false);
      runs = stays.runs;
    }

-- ---- a turn of `to:do:` over, and the next one begun

pub returns-then-sure-eq0 : goal.returns-then-sure-eq0
returns-then-sure-eq0 c =
    turned_led c.args.code.now c.args.plan.now c.args.own c.args.left c.straight.rest c.args.core.now c.straight.core c.go_quickly.new.core
    c.turn_over.new.core (On c.args.at) (On c.straight.here) c.turn_over.result (way.On c.in-On-way.to c.in-On-way.sure) c.straight.invariant.along refl
    c.in-Turns.ensures.1 c.straight.invariant.rest c.turn_over.ensures.few c.turn_over.ensures.gone (sym c.way_of-way.ensures ∙ c.in-On-way.is)

pub returns-then-not-is_on_top : goal.returns-then-not-is_on_top
returns-then-not-is_on_top c =
    turned_led c.args.code.now c.args.plan.now c.args.own c.args.left c.straight.rest c.args.core.now c.straight.core c.go_quickly.new.core
    c.turn_over.new.core (On c.args.at) (On c.straight.here) c.turn_over.result (way.On c.in-On-way.to c.in-On-way.sure) c.straight.invariant.along refl
    c.in-Turns.ensures.1 c.straight.invariant.rest c.turn_over.ensures.few c.turn_over.ensures.gone (sym c.way_of-way.ensures ∙ c.in-On-way.is)

pub returns-in-Waits : goal.returns-in-Waits
returns-in-Waits c =
    turned_led c.args.code.now c.args.plan.now c.args.own c.args.left c.straight.rest c.args.core.now c.straight.core c.go_quickly.new.core
    c.turn_over.new.core (On c.args.at) (On c.straight.here) c.turn_over.result c.way_of-way.result c.straight.invariant.along refl
    c.in-Turns.ensures.1 c.straight.invariant.rest c.turn_over.ensures.few c.turn_over.ensures.gone (sym c.way_of-way.ensures)

pub straight-smaller : goal.straight-smaller
straight-smaller c =
    turned_falls c.args.code.now c.straight.core c.go_quickly.new.core c.turn_over.new.core (On c.straight.here) c.turn_over.result c.straight.rest
    c.in-On-way.sure c.in-On-way.to c.in-Turns.ensures.1 (sym c.way_of-way.ensures ∙ c.in-On-way.is) c.turn_over.ensures.gone.falls

pub straight-preserved : goal.straight-preserved
straight-preserved c =
    let on : HasLed c.args.code.now c.args.plan.now c.args.own c.args.left c.args.core.now (On c.args.at) c.turn_over.new.core
    (way.On c.in-On-way.to c.in-On-way.sure) =
    turned_led c.args.code.now c.args.plan.now c.args.own c.args.left c.straight.rest c.args.core.now c.straight.core c.go_quickly.new.core
    c.turn_over.new.core (On c.args.at) (On c.straight.here) c.turn_over.result (way.On c.in-On-way.to c.in-On-way.sure) c.straight.invariant.along refl
    c.in-Turns.ensures.1 c.straight.invariant.rest c.turn_over.ensures.few c.turn_over.ensures.gone (sym c.way_of-way.ensures ∙ c.in-On-way.is) in
    record {
      along = on.gone.along;
      rest = on.few;
      some = omega (arith, c.if-sure-eq0.false);
      runs = on_top c.args.body c.turn_over.new.core.stack.frames.items (sym c.is_on_top.ensures ∙ c.if-not-is_on_top.false);
    }

-- ---- one move more

pub returns-in-On : goal.returns-in-On
returns-in-On c =
    let along = c.straight.invariant.along in
    let rest = c.straight.invariant.rest in
    let some = c.straight.invariant.some in
    let onward = along.onward in
    let one = c.moves_charge_one.ensures.moves c.args.code.now c.args.plan.now c.args.own c.straight.core c.go_quickly.new.core (On c.straight.here)
    (On c.in-On.to) along.runs refl c.in-On.ensures in
    subst (λ (way : Way). HasLed c.args.code.now c.args.plan.now c.args.own c.args.left c.args.core.now (On c.args.at) c.go_quickly.new.core way)
    (sym c.way_on.ensures)
    (record {
      gone = body_gone c.args.code.now (c.moves_go_along.ensures c.args.code.now) c.args.plan.now c.args.own c.args.left c.straight.rest c.args.core.now
          c.straight.core c.go_quickly.new.core c.args.at c.straight.here (On c.in-On.to) some rest along c.in-On.ensures;
      few = omega (arith, rest, some, onward, one);
    })

pub returns-in-Answered : goal.returns-in-Answered
returns-in-Answered c =
    let along = c.straight.invariant.along in
    let some = c.straight.invariant.some in
    let rest = c.straight.invariant.rest in
    let onward = along.onward in
    let one = c.moves_charge_one.ensures.passing c.args.code.now c.args.plan.now c.args.own c.straight.core c.go_quickly.new.core (On c.straight.here)
    (On c.in-Answered.to) along.runs refl c.in-Answered.ensures in
    let few : c.straight.core.run.world.world.steps - c.args.core.now.run.world.world.steps < c.args.left = omega (arith, some, rest) in
    subst (λ (way : Way). HasLed c.args.code.now c.args.plan.now c.args.own c.args.left c.args.core.now (On c.args.at) c.go_quickly.new.core way)
    (sym c.way_on-in-Answered.ensures)
    (record {
      gone = c.passing_goes_along.ensures c.args.code.now c.args.plan.now c.args.own c.args.left c.args.core.now c.straight.core c.go_quickly.new.core
          (On c.args.at) (On c.straight.here) (On c.in-Answered.to) along refl refl few c.in-Answered.ensures;
      few = omega (arith, rest, some, onward, one);
    })

pub go_apart-requires-clause-runs : goal.go_apart-requires-clause-runs
go_apart-requires-clause-runs c =
    subst (λ (at : Registers). RunsBy c.args.code.now c.args.plan.now c.args.own c.go_quickly.new.core (On at))
    (sym (c.step_back-before.ensures ∙ stepped_back c.straight.here))
    (untouched_along c.args.code.now c.args.plan.now c.args.own c.args.left c.args.core.now (On c.args.at) c.straight.core c.go_quickly.new.core
    c.straight.here c.straight.invariant.along c.in-Nowhere.ensures).runs

pub returns-in-Nowhere : goal.returns-in-Nowhere
returns-in-Nowhere c =
    let rest = c.straight.invariant.rest in
    let onward = c.straight.invariant.along.onward in
    let untouched = untouched_steps c.args.code.now c.straight.core c.go_quickly.new.core c.in-Nowhere.ensures in
    let here = c.step_back-before.ensures ∙ stepped_back c.straight.here in
    let gone =
    subst (λ (at : Registers). HasGone c.args.code.now c.args.plan.now c.args.own c.straight.rest c.go_quickly.new.core (On at) c.go_apart.new.core
    c.go_apart.result)
    here c.go_apart.ensures.gone in
    subst (λ (way : Way). HasLed c.args.code.now c.args.plan.now c.args.own c.args.left c.args.core.now (On c.args.at) c.go_apart.new.core way)
    (sym c.way_of.ensures)
    (way_led c.args.code.now c.args.plan.now c.args.own c.args.left c.straight.rest c.args.core.now c.go_quickly.new.core c.go_apart.new.core (On c.args.at)
    c.go_apart.result (omega (arith, rest, untouched)) (omega (arith, onward, untouched)) c.go_apart.ensures.few
    (untouched_far c.args.code.now c.args.plan.now c.args.own c.args.left c.straight.rest c.args.core.now c.straight.core c.go_quickly.new.core
    c.go_apart.new.core (On c.args.at) c.straight.here c.go_apart.result c.straight.invariant.along refl c.in-Nowhere.ensures
    (omega (arith, rest, untouched)) gone))
