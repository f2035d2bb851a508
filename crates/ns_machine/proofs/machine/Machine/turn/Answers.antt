use Rattle.std.proofs.Common.{◌≡◌, ◌+◌, zero, true, false, refl, arith, subst, sym, inr}
use Rattle.ns_code.specs.declared.program.CodeProgram.{CodeProgram}
use Rattle.ns_moves.specs.Turn.{is_still, Turns}
use Rattle.ns_moves.specs.Valid.{Valid}
use Rattle.ns_moves.specs.Living.{KeepsLive}
use Rattle.ns_machine_reach.specs.Reached.{StaysInReach}
use Rattle.ns_machine_alike.specs.Underway.{GoesOnAlike}
use Rattle.ns_machine_core.specs.Shown.{shown}
use Rattle.ns_machine_core.specs.Ready.{MachineIsReady}
use Rattle.ns_machine_turns.specs.Turning.{RunsBy}
use Rattle.ns_machine.specs.Machine.{MachineView, IsMachine, stage_shown}
use Rattle.ns_machine.specs.declared.stage.Stage.{Stage}
use Rattle.ns_machine.proofs.Standing.{machine_runs, machine_ready, machine_on}
use Rattle.ns_machine.proofs.machine.Machine.turn.Goals as goal

pub turn-next-requires : goal.turn-next-requires
turn-next-requires c =
    let m = c.self.inside in
    subst (λ (code : CodeProgram). RunsBy code m.plan m.own m.core c.in-Begun.from) (sym c.code.ensures.code)
    (machine_runs m.code m.grants m.plan m.core m.own c.in-Begun.from
    (subst (λ (s : Stage). IsMachine m.code m.grants m.plan m.core m.own s) c.in-Begun.is c.self.invariant))

pub invariant_of-self : goal.invariant_of-self
invariant_of-self c =
    let m = c.self.inside in
    let is = subst (λ (s : Stage). IsMachine m.code m.grants m.plan m.core m.own s) c.in-Begun.is c.self.invariant in
    machine_on m.code m.grants m.plan m.core c.turn-next.new.core m.own c.in-Begun.from c.turn-next.result is
    (subst (λ (code : CodeProgram). MachineIsReady code m.grants m.core c.in-Begun.from → MachineIsReady code m.grants c.turn-next.new.core c.turn-next.result)
    c.code.ensures.code (c.turn-next.ensures.ready m.grants) (machine_ready m.code m.grants m.plan m.core m.own c.in-Begun.from is))
    c.turn-next.ensures.stays

pub returns-in-Unbegun-clause-turns : goal.returns-in-Unbegun-clause-turns
returns-in-Unbegun-clause-turns c =
    let m = c.self.inside in
    let still = subst (λ (s : Stage). is_still (stage_shown m.code m.core s) ≡ true) (sym c.in-Unbegun.is) refl in
    let all : zero + c.args.steps ≡ c.args.steps = omega arith in
    inr (record {
      count = zero;
      spared = c.args.steps;
      is = refl;
      charged = all;
      still = subst (λ (shown : MachineView). is_still shown.state ≡ true) c.self.view_is still;
    })

pub returns-in-Begun-clause-reach : goal.returns-in-Begun-clause-reach
returns-in-Begun-clause-reach c =
    let m = c.self.inside in
    let last = shown m.code c.turn-next.new.core c.turn-next.result in
    let valid = subst (λ (s : Stage). Valid m.code m.grants (stage_shown m.code m.core s)) c.in-Begun.is c.self.invariant.valid in
    let turns = subst (λ (code : CodeProgram). Turns code c.args.steps (shown code m.core c.in-Begun.from) (shown code c.turn-next.new.core c.turn-next.result))
    c.code.ensures.code c.turn-next.ensures.turns in
    subst (λ (view : MachineView). is_still view.state ≡ false → StaysInReach view.state last) c.self.view_is
    (subst (λ (s : Stage). is_still (stage_shown m.code m.core s) ≡ false → StaysInReach (stage_shown m.code m.core s) last) (sym c.in-Begun.is)
    (λ going. c.turns_stay_in_reach.ensures m.code m.grants c.args.steps (shown m.code m.core c.in-Begun.from) last valid going turns))

pub returns-in-Unbegun-clause-alike : goal.returns-in-Unbegun-clause-alike
returns-in-Unbegun-clause-alike c =
    let m = c.self.inside in
    let old = stage_shown m.code m.core m.stage in
    let still = subst (λ (s : Stage). is_still (stage_shown m.code m.core s) ≡ true) (sym c.in-Unbegun.is) refl in
    let all : zero + c.args.steps ≡ c.args.steps = omega arith in
    subst (λ (view : MachineView). GoesOnAlike view.code view.grants c.args.steps view.state view.state) c.self.view_is
    (c.turns_go_on_alike.ensures m.code m.grants c.args.steps old old (inr (record { count = zero; spared = c.args.steps; is = refl; charged = all; still = still })))

pub returns-in-Begun-clause-alike : goal.returns-in-Begun-clause-alike
returns-in-Begun-clause-alike c =
    let m = c.self.inside in
    let last = shown m.code c.turn-next.new.core c.turn-next.result in
    let turns = subst (λ (code : CodeProgram). Turns code c.args.steps (shown code m.core c.in-Begun.from) (shown code c.turn-next.new.core c.turn-next.result))
    c.code.ensures.code c.turn-next.ensures.turns in
    subst (λ (view : MachineView). GoesOnAlike view.code view.grants c.args.steps view.state last) c.self.view_is
    (subst (λ (s : Stage). GoesOnAlike m.code m.grants c.args.steps (stage_shown m.code m.core s) last) (sym c.in-Begun.is)
    (c.turns_go_on_alike.ensures m.code m.grants c.args.steps (shown m.code m.core c.in-Begun.from) last turns))

pub returns-in-Begun-clause-keeps_live : goal.returns-in-Begun-clause-keeps_live
returns-in-Begun-clause-keeps_live c =
    let m = c.self.inside in
    let last = shown m.code c.turn-next.new.core c.turn-next.result in
    let valid = subst (λ (s : Stage). Valid m.code m.grants (stage_shown m.code m.core s)) c.in-Begun.is c.self.invariant.valid in
    let turns = subst (λ (code : CodeProgram). Turns code c.args.steps (shown code m.core c.in-Begun.from) (shown code c.turn-next.new.core c.turn-next.result))
    c.code.ensures.code c.turn-next.ensures.turns in
    subst (λ (view : MachineView). KeepsLive view.code view.state last) c.self.view_is
    (subst (λ (s : Stage). KeepsLive m.code (stage_shown m.code m.core s) last) (sym c.in-Begun.is)
    (c.moves_keep_live.ensures.turns m.code m.grants c.args.steps (shown m.code m.core c.in-Begun.from) last valid turns))
