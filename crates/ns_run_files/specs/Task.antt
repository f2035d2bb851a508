-- What is done with a program, apart from where its words lie.
use Rattle.std.specs.Prelude.{ℕ, ℤ, Bool, List, Option, map, option_map, string_bytes}
use Rattle.ns_base.specs.Limits.{InRange}
use Rattle.ns_base.specs.declared.limits.Limits.{Limits}
use Rattle.ns_run_files.specs.declared.task.Task as tasks
use Rattle.ns_run_files.specs.declared.task.Task.TheVariants.{Check, Show, Build, Act, Test, Snap, Replay}
use Rattle.ns_run_words.specs.Letter.{MayAct}
use Rattle.ns_run_words.specs.Words.{move_of}
use Rattle.ns_run_words.specs.declared.moves.Move.{Move}

-- A program is checked, as it is asked for all its faults and for the sends that nothing answers; the canonical source of its first file
-- is told, or its image is stored under a name. Or so many of its actors have rounds within limits until all rest, and the first gets a
-- letter of a selector and a number. Or its tests are run within limits: all of them, in the order of the text or in the
-- reverse one, or the one of a name. Or its run within limits is paused after so many steps, and the snapshot of that stored under a name; or
-- it is gone through by moves.
pub data Task : Type 0 where
  Checks : (all sends : Bool) → Task
  Shows : Task
  Builds : (image : List ℕ) → Task
  Acts : (limits : Limits) (count : ℕ) (sel : List ℕ) (number : ℤ) → Task
  Tests : (limits : Limits) (reversed : Bool) (only : Option (List ℕ)) → Task
  Snaps : (name : List ℕ) (limits : Limits) (at : ℕ) → Task
  Replays : (limits : Limits) (moves : List Move) → Task

-- the task that the code's stands for
abbrev pub task_of : tasks.Task → Task
task_of (Check all sends) = Checks all sends
task_of Show = Shows
task_of (Build image) = Builds image.now
task_of (Act limits count sel number) = Acts limits count sel.now number
task_of (Test limits reversed only) = Tests limits reversed (option_map (λ name. name.now) only)
task_of (Snap name limits at) = Snaps name.now limits at
task_of (Replay limits moves) = Replays limits (map move_of (map string_bytes moves.now))

-- The limits of a run are in their ranges, and actors can be there.
abbrev pub RunsInRange : Task → Type 0
RunsInRange (Checks all sends) = Unit {0}
RunsInRange Shows = Unit {0}
RunsInRange (Builds image) = Unit {0}
RunsInRange (Acts limits count sel number) = InRange limits × MayAct count sel
RunsInRange (Tests limits reversed only) = InRange limits
RunsInRange (Snaps name limits at) = InRange limits
RunsInRange (Replays limits moves) = InRange limits
