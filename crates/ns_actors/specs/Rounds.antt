-- Actors that take turns in order until all rest, and what is told of them.
use Rattle.std.specs.Prelude.{ℕ, ℤ, zero, suc, ◌+◌, ◌*◌, List, [], ◌∷◌, ◌++◌, length, replicate, ◌==◌, ◌&&◌, Option, Some, None, Bool, true, false, codes}
use Rattle.std.specs.Fmt.{decimal}
use Rattle.ns_base.specs.declared.limits.Limits.{Limits}
use Rattle.ns_base.specs.declared.status.Status.{Status}
use Rattle.ns_base.specs.declared.status.Status.TheVariants.{Done, ProgramError}
use Rattle.ns_code.specs.declared.program.CodeProgram.{CodeProgram}
use Rattle.ns_facets.specs.declared.board.Plain.TheVariants.{Int}
use Rattle.ns_moves.specs.Doubling.{until}
use Rattle.ns_run_code.specs.Run.{granted}
use Rattle.ns_session.specs.Member.{Application}
use Rattle.ns_actors.specs.declared.letter.Letter.{Letter}
use Rattle.ns_actors.specs.declared.told.Acted.{Acted}
use Rattle.ns_actors.specs.Actor.{ActorView, Stage, Opening, Between, Sending, Holding, Stopped, starting, transcript_of, report_of}
use Rattle.ns_actors.specs.Turn.{ActorsView, host_number, posted, turn_of}

-- ---- rounds

-- whether an actor rests: it has stopped, or it is between two letters and has taken all of its box
abbrev pub rests_at : Stage → ActorView → Bool
rests_at Opening actor = false
rests_at (Between behaviour) actor = actor.taken == length actor.box
rests_at (Sending behaviour) actor = false
rests_at (Holding behaviour letters) actor = false
rests_at (Stopped why) actor = true

abbrev pub all_rest : List ActorView → Bool
all_rest [] = true
all_rest (actor ∷ actors) = rests_at actor.stage actor && all_rest actors

abbrev pub at_rest : ActorsView → Bool
at_rest view = all_rest view.actors

-- so many actors have turns of so many steps, in order, from a number on
abbrev pub round_from : ℕ → ℕ → ℕ → ActorsView → ActorsView
round_from steps zero k view = view
round_from steps (suc more) k view = round_from steps more (k + 1) (turn_of k steps view).view

-- all have one
abbrev pub round_of : ℕ → ActorsView → ActorsView
round_of steps view = round_from steps (length view.actors) 0 view

-- a power of two that passes the rounds of so many actors within these limits: each round but the last uses up a step of
-- some run, ends an opening, or takes a letter that isn't known; and no send has more letters than cells
abbrev pub power_of_rounds : ℕ → Limits → ℕ
power_of_rounds count limits = (count + 1) * (limits.steps + limits.cells + 2)

-- rounds until all rest
abbrev pub rounds : Limits → ActorsView → ActorsView
rounds limits view = until at_rest (round_of 1000) 0 (power_of_rounds (length view.actors) limits) view

-- ---- the actors of a program

-- what each is
abbrev pub actor_of : CodeProgram → Limits → Application
actor_of code limits = record { code = code; grants = granted; limits = limits }

-- so many of them, each started
abbrev pub started : CodeProgram → Limits → ℕ → ActorsView
started code limits count = record { actors = replicate count (starting (actor_of code limits)); host = [] }

-- the letter that the host posts to the first
abbrev pub first_letter : List ℕ → ℤ → Letter
first_letter sel number = record { from = host_number; to = 0; sel = sel; arg = Int number }

-- where they rest
abbrev pub played : CodeProgram → Limits → ℕ → List ℕ → ℤ → ActorsView
played code limits count sel number = rounds limits (posted (first_letter sel number) (started code limits count))

-- ---- what is told

abbrev pub report_or : Option (List ℕ) → List ℕ
report_or (Some line) = line
report_or None = codes "outbox" ++ 10 ∷ []

-- why it stopped, if it did
abbrev pub stop_text : Stage → Option (List ℕ) → List ℕ
stop_text Opening line = []
stop_text (Between behaviour) line = []
stop_text (Sending behaviour) line = []
stop_text (Holding behaviour letters) line = []
stop_text (Stopped why) line = codes "stopped: " ++ report_or line

-- the number of an actor and how many letters it has taken, what it printed, and why it stopped if it did
abbrev pub actor_text : List (List ℕ) → ℕ → ActorView → List ℕ
actor_text files number actor =
    codes "actor " ++ decimal number ++ codes " taken " ++ decimal actor.taken ++ 10 ∷ transcript_of actor
    ++ stop_text actor.stage (report_of files actor)

-- those of all, of which the first has that number
abbrev pub text_from : List (List ℕ) → ℕ → List ActorView → List ℕ
text_from files number [] = []
text_from files number (actor ∷ actors) = actor_text files number actor ++ text_from files (number + 1) actors

abbrev pub status_at : Stage → Status → Status
status_at Opening others = others
status_at (Between behaviour) others = others
status_at (Sending behaviour) others = others
status_at (Holding behaviour letters) others = others
status_at (Stopped why) others = ProgramError

-- an error of the program where one has stopped
abbrev pub status_of : List ActorView → Status
status_of [] = Done
status_of (actor ∷ actors) = status_at actor.stage (status_of actors)

abbrev pub told_of : List (List ℕ) → ActorsView → Acted
told_of files view = record { out = text_from files 0 view.actors; status = status_of view.actors }

-- what so many actors of some code come to, of which the first gets this letter
abbrev pub acted : CodeProgram → Limits → ℕ → List ℕ → ℤ → Acted
acted code limits count sel number = told_of code.files (played code limits count sel number)
