use Rattle.std.proofs.Common.{◌≡◌, subst, sym, IfOk}
use Rattle.ns_code.specs.declared.program.CodeProgram.{CodeProgram}
use Rattle.ns_moves.specs.State.{world_of}
use Rattle.ns_run_told.specs.Told.{told_end}
use Rattle.ns_run_told.proofs.end.told_end.Goals as goal
use Rattle.ns_world.specs.declared.ending.Ending.{Ending}
use Rattle.ns_world.specs.declared.ending.Ending.TheVariants as ending

pub returns-in-Error : goal.returns-in-Error
returns-in-Error c =
    let machine = c.args.machine.now in
    let heap = (world_of machine.state).cells in
    subst (λ (e : Ending). IfOk c.failed.result (λ end. end ≡ told_end heap machine.code machine.code.files e)) (sym c.in-Error.is)
    (subst (λ (code : CodeProgram). IfOk c.failed.result (λ end. end ≡ told_end heap code code.files (ending.Error c.in-Error.error)))
    c.code.ensures.code (c.failed.ensures heap))
