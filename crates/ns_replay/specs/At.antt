-- Where a run stands that was given so many steps from its start.
use Rattle.std.specs.Prelude.{ℕ}
use Rattle.ns_code.specs.declared.program.CodeProgram.{CodeProgram}
use Rattle.ns_moves.specs.State.{State, world_of}
use Rattle.ns_session.specs.Turned.{turned}

-- a turn of so many steps from the start
abbrev pub at : CodeProgram → State → ℕ → State
at code start step = turned code step start

-- the steps that a run has used there
abbrev pub position_in : State → ℕ
position_in state = (world_of state).steps
