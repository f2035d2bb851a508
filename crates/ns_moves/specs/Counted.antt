-- Frames are counted: as much depth is charged as there are, and the homes of methods fall from the count of begun ones.
use Rattle.std.specs.Prelude.{◌≡◌, ℕ, List, length, true}
use Rattle.ns_base.specs.declared.limits.Limits.{Limits}
use Rattle.ns_code.specs.declared.program.CodeProgram.{CodeProgram}
use Rattle.ns_facets.specs.declared.row.Grants.{Grants}
use Rattle.ns_moves.specs.Control.{Progress}
use Rattle.ns_moves.specs.State.{Frame, State, Unbegun, Going, Pends, Ended, Stuck}
use Rattle.ns_moves.specs.Move.{moves}
use Rattle.ns_moves.specs.Starts.{new_machine, started}
use Rattle.ns_moves.specs.ValidFrames.{homes_fall}

-- So much depth is charged, and homes fall so.
pub record DepthIsCounted (frames : List Frame) (progress : Progress) : Type 0 where
  pub depth : progress.world.depth ≡ length frames
  pub homes : homes_fall progress.begun frames ≡ true

-- the frames of a state that goes on
abbrev pub FramesAreCounted : State → Type 0
FramesAreCounted (Unbegun arguments progress) = progress.world.depth ≡ 0
FramesAreCounted (Going phase frames progress) = DepthIsCounted frames progress
FramesAreCounted (Pends phase pending frames progress) = DepthIsCounted frames progress
FramesAreCounted (Ended ending phase progress) = Unit {0}
FramesAreCounted (Stuck progress) = Unit {0}

-- Moves keep the count.
abbrev pub MovesKeepCount : CodeProgram → Type 0
MovesKeepCount code = (count : ℕ) (state : State) → FramesAreCounted state → FramesAreCounted (moves code count state)

-- A new machine has that count, and its start keeps it.
abbrev pub NewIsCounted : CodeProgram → Type 0
NewIsCounted code =
    (limits : Limits) (grants : Grants) (arguments : List (List ℕ)) → FramesAreCounted (new_machine code limits grants arguments)

-- the first opening send stands on no frame
abbrev pub StartKeepsCount : CodeProgram → Type 0
StartKeepsCount code = (state : State) → FramesAreCounted state → FramesAreCounted (started code state)
