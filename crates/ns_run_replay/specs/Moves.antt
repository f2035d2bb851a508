-- Moves through a run, and what is told of each.
use Rattle.std.specs.Prelude.{ℕ, ◌+◌, ◌-◌, List, [], ◌∷◌, ◌++◌, codes}
use Rattle.std.specs.Fmt.{decimal}
use Rattle.ns_code.specs.declared.program.CodeProgram.{CodeProgram}
use Rattle.ns_moves.specs.State.{State, world_of}
use Rattle.ns_replay.specs.At.{at, position_in}
use Rattle.ns_run_words.specs.declared.moves.Move.{Move}
use Rattle.ns_run_words.specs.declared.moves.Move.TheVariants.{Forward, Back, To}
use Rattle.ns_world.specs.World.{counters_of}
use Rattle.ns_world.specs.declared.ending.Counters.{Counters}

-- the step to which a move goes from a position, back to 0 at most
abbrev pub aim : ℕ → Move → ℕ
aim position (Forward steps) = position + steps
aim position (Back steps) = position - steps
aim position (To step) = step

-- the line that tells what a run has used
abbrev pub line_of : Counters → List ℕ
line_of used =
    codes "step " ++ decimal used.steps ++ codes " cells " ++ decimal used.cells ++ codes " depth " ++ decimal used.depth
    ++ codes " out " ++ decimal used.out ++ 10 ∷ []

-- the line of a run that stands in that state
abbrev pub line_in : State → List ℕ
line_in state = line_of (counters_of (world_of state))

-- the lines of moves from a position on, each from where the last one led
abbrev pub lines_from : CodeProgram → State → ℕ → List Move → List ℕ
lines_from code start position [] = []
lines_from code start position (move ∷ moves) =
    line_in (at code start (aim position move)) ++ lines_from code start (position_in (at code start (aim position move))) moves
