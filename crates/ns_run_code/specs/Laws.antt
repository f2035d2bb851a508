-- What is said of the runs of code by the laws about them.
use Rattle.std.specs.Prelude.{◌≡◌, ℕ, List}
use Rattle.ns_base.specs.Limits.{InRange}
use Rattle.ns_base.specs.declared.limits.Limits.{Limits}
use Rattle.ns_code.specs.declared.program.CodeProgram.{CodeProgram}
use Rattle.ns_moves.specs.Falling.{run_left}
use Rattle.ns_gen_code.specs.Code.{code_of}
use Rattle.ns_link.specs.Stated.{MayRun}
use Rattle.ns_resolved.specs.Program.{Meant}
use Rattle.ns_moves.specs.Move.{moves}
use Rattle.ns_moves.specs.State.{Phase, State, Ended}
use Rattle.ns_moves.specs.Control.{Progress}
use Rattle.ns_world.specs.declared.ending.Ending.{Ending}
use Rattle.ns_run_code.specs.Machine.{begins_with, rested, machine_run}
use Rattle.ns_run_code.specs.Resting.{IsRunnable}
use Rattle.ns_run_code.specs.Run.{meant_run}

-- ---- runs end

-- Where a run comes to rest it has ended; and it has after as many moves as it can make at most.
pub record ComesToItsEnd (code : CodeProgram) (state : State) : Type 0 where
  pub ending : Ending
  pub phase : Phase
  pub progress : Progress
  pub is : rested code state ≡ Ended ending phase progress
  pub moved : moves code (run_left code state) state ≡ rested code state

-- So every run of such code ends.
abbrev pub CodeEnds : CodeProgram → Type 0
CodeEnds code =
    (limits : Limits) (arguments : List (List ℕ)) → IsRunnable code limits → ComesToItsEnd code (begins_with code limits arguments)

-- ---- the run of a program's code is the run that its source means

abbrev pub CodeRunsAsMeant : Meant → Type 0
CodeRunsAsMeant meant =
    (limits : Limits) (arguments : List (List ℕ)) → MayRun meant limits → machine_run (code_of meant) limits arguments ≡ meant_run meant limits arguments

-- The runs of this code, at all limits and with all arguments, are those that the source means.
abbrev pub RunsAsSourceMeans : Meant → CodeProgram → Type 0
RunsAsSourceMeans meant code =
    (limits : Limits) (arguments : List (List ℕ)) → InRange limits → machine_run code limits arguments ≡ meant_run meant limits arguments
