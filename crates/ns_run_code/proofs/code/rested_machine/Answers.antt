use Rattle.std.proofs.Common.{ap, subst, ◌∙◌}
use Rattle.ns_code.specs.Fits.{Fits}
use Rattle.ns_code.specs.declared.program.CodeProgram.{CodeProgram}
use Rattle.ns_machine.specs.Machine.{MachineView}
use Rattle.ns_machine.specs.Turning.{Ran}
use Rattle.ns_moves.specs.Starts.{started}
use Rattle.ns_moves.specs.State.{State}
use Rattle.ns_run_code.specs.Run.{granted}
use Rattle.ns_run_code.proofs.code.rested_machine.Goals as goal
use Rattle.ns_verify.specs.Verify.{IsSound}

pub returns-clause-machine : goal.returns-clause-machine
returns-clause-machine c =
    let code = c.args.code in
    let new = c.run.new.self.state in
    let sound = subst (λ (each : CodeProgram). IsSound each) c.code-admitted.ensures.code c.code-admitted.ensures.sound in
    let fits = subst (λ (each : CodeProgram). Fits each) c.code-admitted.ensures.code c.code-admitted.ensures.fits in
    let fresh = c.in_ok-machine.ensures in
    let ran = subst (λ (m : MachineView). Ran m.code (started m.code m.state) c.run.result new) fresh c.run.ensures.ran in
    let rest = c.runs_end_at_rest.ensures.runs code c.args.limits c.args.arguments.now new c.run.result
    (record { sound = sound; fits = fits; range = c.requires }) ran in
    c.run.ensures.rest
    ∙ (ap (λ (m : MachineView). record m { state = new }) fresh ∙ ap (λ (s : State). record { code = code; grants = granted; state = s }) rest)
