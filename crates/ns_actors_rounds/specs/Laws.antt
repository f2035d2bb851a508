-- What is said of rounds by the laws about them.
use Rattle.std.specs.Prelude.{◌≡◌, ◌<◌, ◌≤◌, ℕ, ℤ, ◌^◌, List, length, true, false}
use Rattle.ns_base.specs.declared.limits.Limits.{Limits}
use Rattle.ns_code.specs.declared.program.CodeProgram.{CodeProgram}
use Rattle.ns_actors.specs.Rounds.{actor_of, at_rest, first_letter, played, power_of_rounds, round_of, rounds, started}
use Rattle.ns_actors.specs.Stated.{AreActors}
use Rattle.ns_actors.specs.Turn.{ActorsView, posted}
use Rattle.ns_actors_calls.specs.Letters.{takes_one}
use Rattle.ns_session.specs.Member.{MayStart}
use Rattle.ns_actors_rounds.specs.Left.{left}

-- A round of actors that don't all rest leaves less to do.
abbrev pub RoundsLeaveLess : Type 0
RoundsLeaveLess = (steps : ℕ) (view : ActorsView) → AreActors view → 1 ≤ steps → at_rest view ≡ false → left (round_of steps view) < left view

-- They stay actors.
abbrev pub RoundsKeepActors : Type 0
RoundsKeepActors = (steps : ℕ) (view : ActorsView) → AreActors view → AreActors (round_of steps view)

-- The rounds are enough: at first there is less to do than two to the power.
abbrev pub IsWithinRounds : Limits → ActorsView → Type 0
IsWithinRounds limits view = left view < 2 ^ power_of_rounds (length view.actors) limits

-- So actors rest after their rounds.
abbrev pub ActorsRest : Type 0
ActorsRest = (limits : Limits) (view : ActorsView) → AreActors view → IsWithinRounds limits view → at_rest (rounds limits view) ≡ true

-- For the actors of a program there are rounds enough, whatever letter the first gets.
abbrev pub ProgramsHaveRounds : CodeProgram → Limits → Type 0
ProgramsHaveRounds code limits =
    (count : ℕ) (sel : List ℕ) (number : ℤ) → IsWithinRounds limits (posted (first_letter sel number) (started code limits count))

-- So they rest after them.
abbrev pub ProgramsRest : CodeProgram → Limits → Type 0
ProgramsRest code limits =
    (count : ℕ) (sel : List ℕ) (number : ℤ) → MayStart (actor_of code limits) → 1 ≤ count → count ≤ 16 → takes_one sel ≡ true
    → at_rest (played code limits count sel number) ≡ true
