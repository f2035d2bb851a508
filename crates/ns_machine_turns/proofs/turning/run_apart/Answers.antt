use Rattle.std.proofs.Common.{◌≡◌, refl, subst, sym, arith, false}
use Rattle.ns_moves.specs.Turn.{is_still}
use Rattle.ns_machine_core.specs.declared.state.Next.{Next}
use Rattle.ns_machine_core.specs.declared.state.Next.TheVariants.{On}
use Rattle.ns_machine_core.specs.Ready.{MakesMove}
use Rattle.ns_machine_core.specs.Shown.{shown}
use Rattle.ns_machine_turns.specs.Turning.{HasGoneOnce, RunsBy}
use Rattle.ns_machine_turns.proofs.Along.{once_gone, waits_goes}
use Rattle.ns_machine_turns.proofs.turning.run_apart.Goals as goal

pub returns-then-left-lt2-clause-gone : goal.returns-then-left-lt2-clause-gone
returns-then-left-lt2-clause-gone c =
    let once : HasGoneOnce c.args.code.now c.args.plan.now c.args.own c.args.left c.args.core.now (On c.args.at) c.move_on-moved.new.core c.move_on-moved.result =
    once_gone c.args.code.now (c.moves_go_along.ensures c.args.code.now) (c.moves_charge_one.ensures.moves c.args.code.now) c.args.plan.now c.args.own
    c.args.left c.args.core.now c.move_on-moved.new.core (On c.args.at) c.move_on-moved.result c.requires.runs refl c.requires.some c.move_on-moved.ensures in
    once.0

pub returns-then-left-lt2-clause-few : goal.returns-then-left-lt2-clause-few
returns-then-left-lt2-clause-few c =
    let once : HasGoneOnce c.args.code.now c.args.plan.now c.args.own c.args.left c.args.core.now (On c.args.at) c.move_on-moved.new.core c.move_on-moved.result =
    once_gone c.args.code.now (c.moves_go_along.ensures c.args.code.now) (c.moves_charge_one.ensures.moves c.args.code.now) c.args.plan.now c.args.own
    c.args.left c.args.core.now c.move_on-moved.new.core (On c.args.at) c.move_on-moved.result c.requires.runs refl c.requires.some c.move_on-moved.ensures in
    let one = once.1 in omega (arith, one)

pub take_up_soon-requires : goal.take_up_soon-requires
take_up_soon-requires c =
    let once : HasGoneOnce c.args.code.now c.args.plan.now c.args.own c.args.left c.args.core.now (On c.args.at) c.move_on-moved.new.core c.move_on-moved.result =
    once_gone c.args.code.now (c.moves_go_along.ensures c.args.code.now) (c.moves_charge_one.ensures.moves c.args.code.now) c.args.plan.now c.args.own
    c.args.left c.args.core.now c.move_on-moved.new.core (On c.args.at) c.move_on-moved.result c.requires.runs refl c.requires.some c.move_on-moved.ensures in
    subst (λ (next : Next). RunsBy c.args.code.now c.args.plan.now c.args.own c.move_on-moved.new.core next) c.in-Waits.is once.0.along.runs

pub returns-in-Waits-clause-gone : goal.returns-in-Waits-clause-gone
returns-in-Waits-clause-gone c =
    let once : HasGoneOnce c.args.code.now c.args.plan.now c.args.own c.args.left c.args.core.now (On c.args.at) c.move_on-moved.new.core c.move_on-moved.result =
    once_gone c.args.code.now (c.moves_go_along.ensures c.args.code.now) (c.moves_charge_one.ensures.moves c.args.code.now) c.args.plan.now c.args.own
    c.args.left c.args.core.now c.move_on-moved.new.core (On c.args.at) c.move_on-moved.result c.requires.runs refl c.requires.some c.move_on-moved.ensures in
    let goes : is_still (shown c.args.code.now c.move_on-moved.new.core c.move_on-moved.result) ≡ false =
    subst (λ (next : Next). is_still (shown c.args.code.now c.move_on-moved.new.core next) ≡ false) (sym c.in-Waits.is)
    (waits_goes c.args.code.now c.move_on-moved.new.core c.in-Waits.to) in
    let second : MakesMove c.args.code.now c.move_on-moved.new.core c.move_on-moved.result c.take_up_soon.new.core c.take_up_soon.result =
    subst (λ (next : Next). MakesMove c.args.code.now c.move_on-moved.new.core next c.take_up_soon.new.core c.take_up_soon.result) (sym c.in-Waits.is)
    c.take_up_soon.ensures in
    let one = once.1 in
    c.moves_go_along.ensures c.args.code.now c.args.plan.now c.args.own c.args.left c.args.core.now c.move_on-moved.new.core c.take_up_soon.new.core (On c.args.at)
    c.move_on-moved.result c.take_up_soon.result once.0.along refl goes (omega (arith, one, c.if-left-lt2.false)) second

pub returns-in-Waits-clause-few : goal.returns-in-Waits-clause-few
returns-in-Waits-clause-few c =
    let once : HasGoneOnce c.args.code.now c.args.plan.now c.args.own c.args.left c.args.core.now (On c.args.at) c.move_on-moved.new.core c.move_on-moved.result =
    once_gone c.args.code.now (c.moves_go_along.ensures c.args.code.now) (c.moves_charge_one.ensures.moves c.args.code.now) c.args.plan.now c.args.own
    c.args.left c.args.core.now c.move_on-moved.new.core (On c.args.at) c.move_on-moved.result c.requires.runs refl c.requires.some c.move_on-moved.ensures in
    let goes : is_still (shown c.args.code.now c.move_on-moved.new.core c.move_on-moved.result) ≡ false =
    subst (λ (next : Next). is_still (shown c.args.code.now c.move_on-moved.new.core next) ≡ false) (sym c.in-Waits.is)
    (waits_goes c.args.code.now c.move_on-moved.new.core c.in-Waits.to) in
    let second : MakesMove c.args.code.now c.move_on-moved.new.core c.move_on-moved.result c.take_up_soon.new.core c.take_up_soon.result =
    subst (λ (next : Next). MakesMove c.args.code.now c.move_on-moved.new.core next c.take_up_soon.new.core c.take_up_soon.result) (sym c.in-Waits.is)
    c.take_up_soon.ensures in
    let one = once.1 in
    let more = c.moves_charge_one.ensures.moves c.args.code.now c.args.plan.now c.args.own c.move_on-moved.new.core c.take_up_soon.new.core
    c.move_on-moved.result c.take_up_soon.result once.0.along.runs goes second in
    omega (arith, one, more)

pub returns-in-On-clause-gone : goal.returns-in-On-clause-gone
returns-in-On-clause-gone c =
    let once : HasGoneOnce c.args.code.now c.args.plan.now c.args.own c.args.left c.args.core.now (On c.args.at) c.move_on-moved.new.core c.move_on-moved.result =
    once_gone c.args.code.now (c.moves_go_along.ensures c.args.code.now) (c.moves_charge_one.ensures.moves c.args.code.now) c.args.plan.now c.args.own
    c.args.left c.args.core.now c.move_on-moved.new.core (On c.args.at) c.move_on-moved.result c.requires.runs refl c.requires.some c.move_on-moved.ensures in
    once.0

pub returns-in-On-clause-few : goal.returns-in-On-clause-few
returns-in-On-clause-few c =
    let once : HasGoneOnce c.args.code.now c.args.plan.now c.args.own c.args.left c.args.core.now (On c.args.at) c.move_on-moved.new.core c.move_on-moved.result =
    once_gone c.args.code.now (c.moves_go_along.ensures c.args.code.now) (c.moves_charge_one.ensures.moves c.args.code.now) c.args.plan.now c.args.own
    c.args.left c.args.core.now c.move_on-moved.new.core (On c.args.at) c.move_on-moved.result c.requires.runs refl c.requires.some c.move_on-moved.ensures in
    let one = once.1 in omega (arith, one)
