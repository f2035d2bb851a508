use Rattle.std.proofs.Common.{ap, ◌∙◌}
use Rattle.ns_base.specs.declared.limits.Limits.{Limits}
use Rattle.ns_code.specs.declared.program.CodeProgram.{CodeProgram}
use Rattle.ns_machine.specs.Machine.{MachineView}
use Rattle.ns_run_code.specs.Run.{granted}
use Rattle.ns_test.specs.Opening.{opened}
use Rattle.ns_test.proofs.opening.opened.Goals as goal

-- a machine of some code in which the opening rests
abbrev resting : Limits → CodeProgram → MachineView
resting limits code = record { code = code; grants = granted; state = opened code limits }

pub returns-clause-machine : goal.returns-clause-machine
returns-clause-machine c = c.in_ok-machine.ensures.machine ∙ ap (resting c.args.limits) c.in_ok-own.ensures
