-- What frames are sure of below them: as much depth as frames, and room for an answer.
use Rattle.std.specs.Prelude.{◌≡◌, ◌<◌, ◌≤◌, ℕ, List, [], ◌∷◌, length, Bool, true, false}
use Rattle.ns_base.specs.declared.place.Place.{Place as SourcePlace}
use Rattle.ns_code.specs.declared.program.CodeProgram.{CodeProgram}
use Rattle.ns_code.specs.Selector.{selector_arity}
use Rattle.ns_facets.specs.declared.row.Grants.{Grants}
use Rattle.ns_moves.specs.Control.{Progress}
use Rattle.ns_moves.specs.State.{Phase, Going, Pending, Pends}
use Rattle.ns_moves.specs.ValidFrames.{SendValue, awaited_for}
use Rattle.ns_moves.specs.Valid.{Valid}
use Rattle.ns_machine_frames.specs.declared.frame.Leaving.{Leaving}
use Rattle.ns_machine_frames.specs.declared.frame.Leaving.TheVariants.{Method, Body, Clause, Part}
use Rattle.ns_machine_frames.specs.Standing.{Stood, Runs, Loops}
use Rattle.ns_machine_frames.specs.View.{frames_shown}
use Rattle.ns_machine_core.specs.Standing.{most_arguments}
use Rattle.ns_moves.specs.Bodies.{height_in}

-- A body on top has room for one operand more.
abbrev pub HasRoomOnTop : CodeProgram → List Stood → Type 0
HasRoomOnTop code [] = Unit {0}
HasRoomOnTop code (Runs frame locals stack ∷ stood) = length stack < height_in code frame.activation.body
HasRoomOnTop code (Loops frame ∷ stood) = Unit {0}

-- whether the end of a frame gives a value
abbrev pub answers : Leaving → Bool
answers Method = true
answers Body = true
answers (Clause class) = true
answers Part = false

-- There is such room below each frame whose end gives a value.
abbrev pub AnswersHaveRoom : CodeProgram → List Stood → Type 0
AnswersHaveRoom code [] = Unit {0}
AnswersHaveRoom code (Runs frame locals stack ∷ stood) =
    (answers frame.leaving ≡ true → HasRoomOnTop code stood) × AnswersHaveRoom code stood
AnswersHaveRoom code (Loops frame ∷ stood) = HasRoomOnTop code stood × AnswersHaveRoom code stood

-- There is as much depth as frames, and an answer has room where it goes.
pub record AreFramed (code : CodeProgram) (stood : List Stood) (progress : Progress) : Type 0 where
  pub depth : progress.world.depth ≡ length stood
  pub rooms : AnswersHaveRoom code stood

-- So it is in each valid state.
abbrev pub ValidIsFramed : CodeProgram → Grants → Type 0
ValidIsFramed code grants =
    (places : List SourcePlace) (phase : Phase) (stood : List Stood) (progress : Progress)
    → Valid code grants (Going phase (frames_shown code places stood) progress) → AreFramed code stood progress

-- Where a send waits, its answer has room.
abbrev pub WaitingHasRoom : CodeProgram → Grants → Type 0
WaitingHasRoom code grants =
    (places : List SourcePlace) (phase : Phase) (pending : Pending) (stood : List Stood) (progress : Progress) → awaited_for pending ≡ SendValue
    → Valid code grants (Pends phase pending (frames_shown code places stood) progress) → HasRoomOnTop code stood

-- The arguments of a selector are no more than the most.
abbrev pub ArgumentsAreFew : CodeProgram → Type 0
ArgumentsAreFew code = (number : ℕ) → selector_arity code number ≤ most_arguments code.names
