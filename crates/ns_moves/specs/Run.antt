-- What a machine's run shows, and when it can go on.
use Rattle.std.specs.Prelude.{◌≤◌, All}
use Rattle.ns_code.specs.declared.program.CodeProgram.{CodeProgram}
use Rattle.ns_world.specs.Lawful.{IsLawful}
use Rattle.ns_find.specs.Memo.{PlaceIsRight}
use Rattle.ns_moves.specs.Control.{Progress}
use Rattle.ns_moves.specs.declared.run.Run.{Run}
use Rattle.ns_moves.specs.Room.{HasCellRoom}

-- what has been done so far
abbrev pub progress_of : Run → Progress
progress_of run = record { world = run.world.world; board = run.board; begun = run.begun }

-- The world is lawful, memory is reserved for all cells, and no more methods have begun than steps.
pub record IsReady (code : CodeProgram) (run : Run) : Type 0 where
  pub lawful : IsLawful run.world.world code
  pub room : HasCellRoom run.world
  pub begun : run.begun ≤ run.world.world.steps

-- The lookups that are kept are right.
abbrev pub KeepsRight : CodeProgram → Run → Type 0
KeepsRight code run = All (PlaceIsRight run.world.world.cells code) run.memo
