use Rattle.std.proofs.Common.{◌≡◌, ◌-◌, ap, subst, ◌∙◌, arith}
use Rattle.ns_code.specs.declared.program.CodeProgram.{CodeProgram}
use Rattle.ns_machine.specs.Machine.{MachineView}
use Rattle.ns_moves.specs.Starts.{started}
use Rattle.ns_moves.specs.Turn.{Turns}
use Rattle.ns_run_code.specs.Machine.{begins_with}
use Rattle.ns_run_trace.proofs.Near.{near_turned}
use Rattle.ns_run_trace.proofs.Standing.{at_state}
use Rattle.ns_run_trace.proofs.before.near_end.Goals as goal

pub returns-clause-near : goal.returns-clause-near
returns-clause-near c =
    let code = c.args.code.now in
    let near = c.turn.new.self.state in
    let some = c.if-steps-eq0.false in
    let begun : c.start.new.self ≡ at_state code (begins_with code c.args.limits c.args.arguments.now) =
    c.start.ensures
    ∙ (ap (λ (m : MachineView). let own : MachineView = record m { state = started m.code m.state } in own) c.in_ok-machine.ensures
    ∙ ap (λ (each : CodeProgram). at_state each (begins_with each c.args.limits c.args.arguments.now)) c.in_ok-own.ensures) in
    near_turned code c.args.steps (begins_with code c.args.limits c.args.arguments.now) near (omega (arith, some))
    (subst (λ (m : MachineView). Turns m.code (c.args.steps - 1) m.state near) begun c.turn.ensures.turns)
