use Rattle.std.proofs.Common.{[], ap, sym, subst, ◌∙◌}
use Rattle.ns_code.specs.declared.program.CodeProgram.{CodeProgram}
use Rattle.ns_world.specs.Lawful.{IsLawful}
use Rattle.ns_moves.specs.Beginning.{MayBegin}
use Rattle.ns_moves.specs.State.{State}
use Rattle.ns_moves.specs.Starts.{begun}
use Rattle.ns_machine_plan.specs.Steps.{no_place}
use Rattle.ns_machine_core.specs.declared.state.Phase.TheVariants.{Hosted}
use Rattle.std.specs.List.{slice_get}
use Rattle.ns_machine_core.specs.Shown.{shown}
use Rattle.ns_machine_alike.specs.Underway.{SendIsUnderway}
use Rattle.ns_machine.specs.Machine.{MachineView, stage_shown}
use Rattle.ns_machine.specs.Waiting.{HostSendWaits}
use Rattle.ns_machine.proofs.Standing.{stage_lawful, with_phase, host_shown, host_machine}
use Rattle.ns_machine.proofs.machine.Machine.begin.Goals as goal

pub wait_for_send-next-requires-clause-lawful : goal.wait_for_send-next-requires-clause-lawful
wait_for_send-next-requires-clause-lawful c =
    let m = c.self.inside in
    subst (λ (code : CodeProgram). IsLawful m.core.run.world.world code) (sym c.code.ensures.code)
    (stage_lawful m.code m.grants m.core m.stage c.self.invariant.valid)

pub invariant_of-self : goal.invariant_of-self
invariant_of-self c =
    let m = c.self.inside in
    host_machine m.code m.grants m.plan m.core c.wait_for_send-next.new.core m.own m.stage c.wait_for_send-next.result c.args.receiver c.args.sel c.args.arguments.now
    (c.sends_of_a_host_are_valid.ensures m.code m.grants) c.self.invariant
    (subst (λ (shown : MachineView). MayBegin shown.code c.args.receiver c.args.sel c.args.arguments.now shown.state) (sym c.self.view_is) c.requires)
    (subst (λ (code : CodeProgram). HostSendWaits code (with_phase m.core Hosted) c.args.receiver c.args.sel (slice_get m.core.places no_place) c.args.arguments.now
    c.wait_for_send-next.new.core c.wait_for_send-next.result)
    c.code.ensures.code c.wait_for_send-next.ensures)

pub returns-clause-began : goal.returns-clause-began
returns-clause-began c =
    let m = c.self.inside in
    ap (λ (s : State). record { code = m.code; grants = m.grants; state = s })
    (host_shown m.code m.grants m.plan m.core c.wait_for_send-next.new.core m.own m.stage c.wait_for_send-next.result c.args.receiver c.args.sel c.args.arguments.now
    c.self.invariant
    (subst (λ (shown : MachineView). MayBegin shown.code c.args.receiver c.args.sel c.args.arguments.now shown.state) (sym c.self.view_is) c.requires)
    (subst (λ (code : CodeProgram). HostSendWaits code (with_phase m.core Hosted) c.args.receiver c.args.sel (slice_get m.core.places no_place) c.args.arguments.now
    c.wait_for_send-next.new.core c.wait_for_send-next.result)
    c.code.ensures.code c.wait_for_send-next.ensures))
    ∙ ap (λ (shown : MachineView). record shown { state = begun c.args.receiver c.args.sel c.args.arguments.now shown.state }) c.self.view_is

pub returns-clause-underway : goal.returns-clause-underway
returns-clause-underway c =
    let m = c.self.inside in
    let idle = stage_shown m.code m.core m.stage in
    let may = subst (λ (shown : MachineView). MayBegin shown.code c.args.receiver c.args.sel c.args.arguments.now shown.state) (sym c.self.view_is) c.requires in
    let begins = host_shown m.code m.grants m.plan m.core c.wait_for_send-next.new.core m.own m.stage c.wait_for_send-next.result c.args.receiver c.args.sel c.args.arguments.now
    c.self.invariant may
    (subst (λ (code : CodeProgram). HostSendWaits code (with_phase m.core Hosted) c.args.receiver c.args.sel (slice_get m.core.places no_place) c.args.arguments.now
    c.wait_for_send-next.new.core c.wait_for_send-next.result)
    c.code.ensures.code c.wait_for_send-next.ensures) in
    let after = shown m.code c.wait_for_send-next.new.core c.wait_for_send-next.result in
    subst (λ (view : MachineView). SendIsUnderway view.code view.grants c.args.receiver c.args.sel c.args.arguments.now view.state [] after) c.self.view_is
    (record { valid = c.self.invariant.valid; may = may; leads = sym begins })
