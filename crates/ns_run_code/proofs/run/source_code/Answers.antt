use Rattle.std.proofs.Common.{ap, ◌∙◌}
use Rattle.ns_code.specs.declared.program.CodeProgram.{CodeProgram}
use Rattle.ns_resolved.specs.Classes.{meant}
use Rattle.ns_run_code.specs.Machine.{machine_run}
use Rattle.ns_run_code.proofs.Meant.{may_run}
use Rattle.ns_run_code.proofs.run.source_code.Goals as goal

pub returns-in-Ok-clause-runs : goal.returns-in-Ok-clause-runs
returns-in-Ok-clause-runs c = λ limits arguments range.
    let program = c.args.checked in
    let may = may_run program c.program-program.result.now limits (c.whole_programs_begin.ensures c.program-program.result.now)
    c.program-program.ensures.program c.program-program.ensures.whole c.in-Ok.ensures.sound c.in-Ok.ensures.fits range in
    ap (λ (code : CodeProgram). machine_run code limits arguments) c.in-Ok.ensures.code
    ∙ c.code_runs_as_meant.ensures (meant program) limits arguments may
