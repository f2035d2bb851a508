use Rattle.std.proofs.Common.{◌≡◌, ℕ, List, IfOk, ap, sym, subst, ◌∙◌}
use Rattle.ns_code.specs.declared.program.CodeProgram.{CodeProgram}
use Rattle.ns_world.specs.Lawful.{IsLawful}
use Rattle.ns_moves.specs.Control.{Progress}
use Rattle.ns_moves.specs.Report.{report_line}
use Rattle.ns_moves.specs.State.{world_of}
use Rattle.ns_machine.specs.Machine.{MachineView}
use Rattle.ns_machine.proofs.Standing.{stage_lawful, stage_progress}
use Rattle.ns_machine.proofs.machine.Machine.report.Goals as goal

pub report_line-requires-clause-lawful : goal.report_line-requires-clause-lawful
report_line-requires-clause-lawful c =
    let m = c.self.inside in
    subst (λ (code : CodeProgram). IsLawful m.core.run.world.world code) (sym c.code.ensures.code)
    (stage_lawful m.code m.grants m.core m.stage c.self.invariant.valid)

pub returns : goal.returns
returns c =
    let m = c.self.inside in
    subst (λ (line : List ℕ). IfOk c.into_vec.result (λ bytes. bytes.items ≡ line))
    (c.in_ok-line.ensures
    ∙ (ap (λ (code : CodeProgram). report_line m.core.run.world.world.cells code c.args.files.now c.args.ending.now) c.code.ensures.code
    ∙ (ap (λ (p : Progress). report_line p.world.cells m.code c.args.files.now c.args.ending.now) (sym (stage_progress m.code m.core m.stage))
    ∙ ap (λ (shown : MachineView). report_line (world_of shown.state).cells shown.code c.args.files.now c.args.ending.now) c.self.view_is)))
    c.into_vec.ensures
