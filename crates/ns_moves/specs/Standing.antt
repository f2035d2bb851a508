-- The part of the invariant that is about frames and about what waits, by where a run stands.
use Rattle.std.specs.Prelude.{ℕ, IsTrue}
use Rattle.ns_code.specs.declared.program.CodeProgram.{CodeProgram}
use Rattle.ns_facets.specs.declared.row.Grants.{Grants}
use Rattle.ns_moves.specs.State.{State, Unbegun, Going, Pends, Ended, Stuck}
use Rattle.ns_moves.specs.Move.{move, moves}
use Rattle.ns_moves.specs.WorldAsks.{FindsAsked}
use Rattle.ns_moves.specs.ValidFrames.{Nothing, awaited_for, FramesAreValid}
use Rattle.ns_moves.specs.Valid.{PendingIsValid, has_frame, Valid}

-- Each frame of a run that goes on is valid, and so is what waits; and it is at no loss.
abbrev pub FramesStand : CodeProgram → State → Type 0
FramesStand code (Unbegun arguments progress) = Unit {0}
FramesStand code (Going phase frames progress) = IsTrue (has_frame frames) × FramesAreValid code progress Nothing frames
FramesStand code (Pends phase pending frames progress) =
    PendingIsValid code progress.world.cells pending frames × FramesAreValid code progress (awaited_for pending) frames
FramesStand code (Ended ending phase progress) = Unit {0}
FramesStand code (Stuck progress) = ⊥

-- A move of a valid state keeps that.
abbrev pub MovesKeepFrames : CodeProgram → Type 0
MovesKeepFrames code = (grants : Grants) (state : State) → Valid code grants state → FramesStand code (move code state)

-- The next instruction of a valid state finds what it asks of the world.
abbrev pub ValidFindsAsked : CodeProgram → Type 0
ValidFindsAsked code = (grants : Grants) (state : State) → Valid code grants state → FindsAsked code state

-- Each state that a valid one moves to is valid.
abbrev pub MovesKeepValid : CodeProgram → Grants → Type 0
MovesKeepValid code grants = (count : ℕ) (state : State) → Valid code grants state → Valid code grants (moves code count state)
