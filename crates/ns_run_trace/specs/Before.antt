-- The state before the move that ends a run.
use Rattle.std.specs.Prelude.{Bool, if◌then◌else◌}
use Rattle.ns_code.specs.declared.program.CodeProgram.{CodeProgram}
use Rattle.ns_moves.specs.Doubling.{until}
use Rattle.ns_moves.specs.Falling.{power_left}
use Rattle.ns_moves.specs.Move.{move}
use Rattle.ns_moves.specs.State.{State, world_of}
use Rattle.ns_moves.specs.Turn.{is_still}

-- whether a run moves no more after the next move
abbrev pub ends_next : CodeProgram → State → Bool
ends_next code state = is_still (move code state)

-- one move, but not the one that ends the run
abbrev pub moved_within : CodeProgram → State → State
moved_within code state = if ends_next code state then state else move code state

-- the state before the move that ends the run; one that moves no more is itself (no run can make as many moves as these)
abbrev pub before_end : CodeProgram → State → State
before_end code state = until (ends_next code) (moved_within code) 0 (power_left code (world_of state).limits) state
