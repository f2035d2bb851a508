-- What is told of a run that has ended.
use Rattle.std.specs.Prelude.{◌≡◌, Some}
use Rattle.ns_base.specs.declared.status.Status.{Status}
use Rattle.ns_base.specs.declared.status.Status.TheVariants.{Done, ProgramError, Refused, Limit, ReadFault, WriteFault, Memory}
use Rattle.ns_code.specs.declared.program.CodeProgram.{CodeProgram}
use Rattle.ns_world.specs.declared.ending.Ending.{Ending}
use Rattle.ns_world.specs.World.{counters_of}
use Rattle.ns_moves.specs.Report.{report_line}
use Rattle.ns_moves.specs.State.{State, ending_of, world_of}
use Rattle.ns_model.specs.Whole.{status_of}
use Rattle.ns_run_code.specs.declared.run.Ran.{Ran}

-- The run has ended.
abbrev pub HasAnEnd : State → Type 0
HasAnEnd state = (ending : Ending) × (ending_of state ≡ Some ending)

-- A status with which a run ends.
abbrev pub IsRunStatus : Status → Type 0
IsRunStatus Done = Unit {0}
IsRunStatus ProgramError = Unit {0}
IsRunStatus Refused = ⊥
IsRunStatus Limit = Unit {0}
IsRunStatus ReadFault = ⊥
IsRunStatus WriteFault = ⊥
IsRunStatus Memory = ⊥

-- what is told of a run that has ended so
abbrev pub told_of : CodeProgram → State → Ending → Ran
told_of code state ending =
    record {
      output = (world_of state).output;
      line = report_line (world_of state).cells code code.files ending;
      status = status_of ending;
      counters = counters_of (world_of state);
    }
