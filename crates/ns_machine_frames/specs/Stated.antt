-- What is said of frames as they stand and of those of the machine's states by the laws about them.
use Rattle.std.specs.Prelude.{◌≡◌, ℕ, zero, suc, ◌<◌, List, [], ◌∷◌, ◌++◌, length, drop, reverse, Option, Some, None, Bool, true, false}
use Rattle.std.specs.List.{slice_index_or}
use Rattle.ns_base.specs.declared.place.Place.{Place as SourcePlace}
use Rattle.ns_code.specs.declared.program.CodeProgram.{CodeProgram}
use Rattle.ns_world.specs.declared.value.Value.{Value}
use Rattle.ns_world.specs.declared.value.Value.TheVariants.{Nil}
use Rattle.ns_moves.specs.Control.{Progress, frame_left}
use Rattle.ns_moves.specs.State.{Phase, State, Going}
use Rattle.ns_moves.specs.Operands.{taken_off, picked}
use Rattle.ns_moves.specs.Returns as returns
use Rattle.ns_machine_frames.specs.declared.frame.Frame.{Frame}
use Rattle.ns_machine_frames.specs.Standing.{Stood, standing, at_next}
use Rattle.ns_machine_frames.specs.Leaving.{delivered, frames_to}
use Rattle.ns_machine_frames.specs.View.{frames_shown}

-- ---- operands

-- The operands that were put on others are those that are taken off.
abbrev pub ComeOffAgain : State → Type 0
ComeOffAgain missing =
    (values stack : List Value) (go : List Value → List Value → State)
    → taken_off missing (length values) [] (reverse values ++ stack) go ≡ go values stack

-- The operand of a number is the one that is picked.
abbrev pub IsPicked : State → Type 0
IsPicked missing =
    (number : ℕ) (stack : List Value) (go : Value → State) → number < length stack
    → picked missing number stack go ≡ go (slice_index_or stack number Nil)

-- ---- returns

-- A value that is delivered to frames comes to the topmost of those that stand.
abbrev pub ValueIsDelivered : CodeProgram → List SourcePlace → Phase → Type 0
ValueIsDelivered code places phase =
    (value : Value) (one : Stood) (stood : List Stood) (progress : Progress)
    → returns.delivered code phase value (frames_shown code places (one ∷ stood)) progress
    ≡ Going phase (frames_shown code places (delivered value (one ∷ stood))) progress

-- so many frames have given back their depth
abbrev pub parts_ended : ℕ → Progress → Progress
parts_ended zero progress = progress
parts_ended (suc count) progress = parts_ended count (frame_left progress)

-- whether there is a number
abbrev pub is_there : Option ℕ → Bool
is_there None = false
is_there (Some count) = true

-- A home is there exactly where the search finds it.
abbrev pub FindsHome : CodeProgram → List SourcePlace → Type 0
FindsHome code places =
    (home next : ℕ) (frames : List Frame) (values : List Value)
    → returns.has_home home (frames_shown code places (standing (at_next next frames) values)) ≡ is_there (frames_to home frames)

-- Where it finds it, a return is delivered to what stands below so many frames, which have given back their depth.
abbrev pub Unwinds : CodeProgram → List SourcePlace → Phase → Type 0
Unwinds code places phase =
    (home next count : ℕ) (value : Value) (frames : List Frame) (values : List Value) (progress : Progress) → frames_to home frames ≡ Some count
    → returns.unwound code phase home value (frames_shown code places (standing (at_next next frames) values)) progress
    ≡ returns.delivered code phase value (frames_shown code places (drop count (standing (at_next next frames) values))) (parts_ended count progress)
