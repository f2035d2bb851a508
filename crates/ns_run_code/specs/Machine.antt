-- The run of code in the machine: moves from its start on, until the run moves no more.
use Rattle.std.specs.Prelude.{ℕ, List, Option, Some, None}
use Rattle.ns_base.specs.declared.limits.Limits.{Limits}
use Rattle.ns_code.specs.declared.program.CodeProgram.{CodeProgram}
use Rattle.ns_world.specs.declared.ending.Ending.{Ending}
use Rattle.ns_world.specs.declared.ending.Ending.TheVariants.{Limit}
use Rattle.ns_world.specs.declared.ending.LimitKind.TheVariants.{Steps}
use Rattle.ns_moves.specs.Doubling.{until}
use Rattle.ns_moves.specs.Falling.{power_left}
use Rattle.ns_moves.specs.Move.{move}
use Rattle.ns_moves.specs.Starts.{new_machine, started}
use Rattle.ns_moves.specs.State.{State, ending_of, world_of}
use Rattle.ns_moves.specs.Turn.{is_still}
use Rattle.ns_run_code.specs.declared.run.Ran.{Ran}
use Rattle.ns_run_code.specs.Run.{granted}
use Rattle.ns_run_code.specs.Running.{told_of}

-- a machine of some code that was started, with what a command grants
abbrev pub begins_with : CodeProgram → Limits → List (List ℕ) → State
begins_with code limits arguments = started code (new_machine code limits granted arguments)

-- where the run comes to rest: no run can make as many moves as these (by a law)
abbrev pub rested : CodeProgram → State → State
rested code state = until is_still (move code) 0 (power_left code (world_of state).limits) state

-- ---- what is told of it

-- how it ended (each has by then)
abbrev pub end_of : Option Ending → Ending
end_of (Some ending) = ending
end_of None = Limit Steps

-- what is told of a run that has come to rest
abbrev pub told_at : CodeProgram → State → Ran
told_at code state = told_of code state (end_of (ending_of state))

-- the run of some code within these limits with these arguments
abbrev pub machine_run : CodeProgram → Limits → List (List ℕ) → Ran
machine_run code limits arguments = told_at code (rested code (begins_with code limits arguments))
