-- Worked examples of outboxes, of boxes, and of turns that run nothing.
use Rattle.std.specs.Prelude.{◌≡◌, ℕ, List, [], ◌∷◌, Option, Some, None, true, false, codes, pos, negsuc}
use Rattle.std.proofs.Common.{refl}
use Rattle.ns_base.specs.declared.limits.Limits.{Limits}
use Rattle.ns_code.specs.declared.program.CodeProgram.{CodeProgram}
use Rattle.ns_world.specs.declared.ending.Ending.TheVariants.{Limit}
use Rattle.ns_world.specs.declared.ending.LimitKind.TheVariants.{Steps}
use Rattle.ns_world.specs.declared.value.Value.{Value}
use Rattle.ns_world.specs.declared.value.Value.TheVariants.{Nil, True, Int, Sym, Ref}
use Rattle.ns_world.specs.Cell.{ArrayCell, TextCell}
use Rattle.ns_world.specs.Heap.{Heap}
use Rattle.ns_facets.specs.declared.board.Plain.{Plain}
use Rattle.ns_facets.specs.declared.board.Plain.TheVariants as plain
use Rattle.ns_run_code.specs.Run.{granted}
use Rattle.ns_session.specs.Member.{Application}
use Rattle.ns_actors.specs.declared.letter.Letter.{Letter}
use Rattle.ns_actors.specs.declared.turn.Stop.TheVariants.{Ended, BadOutbox}
use Rattle.ns_actors.specs.declared.turn.ActorTurn.TheVariants as turn
use Rattle.ns_actors.specs.Actor.{ActorView, Stage, Between, Holding, Stopped, starting, dealt_with}
use Rattle.ns_actors.specs.Outbox.{outbox}
use Rattle.ns_actors.specs.Rounds.{at_rest}
use Rattle.ns_actors.specs.Turn.{ActorsView, host_number, posted, turn_of, turn_taken, answering}

-- code that names two selectors, of which the first takes an argument
abbrev small : CodeProgram
small = record { files = []; names = codes "ping:" ∷ codes "stop" ∷ []; texts = []; classes = []; bodies = [] }

abbrev ping : Value
ping = Sym (record { 0 = 0 })

-- a cell of three elements, and behind it, at 4, a cell with that one alone
abbrev two_arrays : Value → Value → Value → Heap
two_arrays to sel arg = ArrayCell (Ref 0 ∷ []) ∷ ArrayCell (to ∷ sel ∷ arg ∷ []) ∷ []

abbrev letter : ℕ → ℕ → Plain → Letter
letter from to arg = record { from = from; to = to; sel = codes "ping:"; arg = arg }

-- ---- outboxes, of actor 2 of three

abbrev sends_out : Value → Value → Value → Option (List Letter)
sends_out to sel arg = outbox small (two_arrays to sel arg) (Ref 4) 2 3

-- Nil stands for no letters, and so does an empty Array.
nil_is_empty : outbox small [] Nil 2 3 ≡ Some []
nil_is_empty = refl

empty_is_empty : outbox small (ArrayCell [] ∷ []) (Ref 0) 2 3 ≡ Some []
empty_is_empty = refl

-- An Array of one letter, from 2 to 1.
one_letter : sends_out (Int (pos 1)) ping (Int (pos 7)) ≡ Some (letter 2 1 (plain.Int (pos 7)) ∷ [])
one_letter = refl

-- An actor may write to itself; the argument may be a boolean.
to_itself : sends_out (Int (pos 2)) ping True ≡ Some (letter 2 2 plain.True ∷ [])
to_itself = refl

-- No outbox: a number that no actor has, one below 0, a selector without argument, a text as the argument, elements that are
-- no Arrays, and a value that is none.
no_such_actor : sends_out (Int (pos 3)) ping Nil ≡ None
no_such_actor = refl

below_all : sends_out (Int (negsuc 0)) ping Nil ≡ None
below_all = refl

without_argument : sends_out (Int (pos 1)) (Sym (record { 0 = 1 })) Nil ≡ None
without_argument = refl

no_plain_value : sends_out (Int (pos 1)) ping (Ref 0) ≡ None
no_plain_value = refl

no_array_inside : outbox small (ArrayCell (True ∷ []) ∷ []) (Ref 0) 2 3 ≡ None
no_array_inside = refl

no_array : outbox small (TextCell [] ∷ []) (Ref 0) 2 3 ≡ None
no_array = refl

-- One that is no letter is enough.
one_is_bad : outbox small (ArrayCell (Ref 0 ∷ Nil ∷ []) ∷ ArrayCell (Int (pos 1) ∷ ping ∷ Nil ∷ []) ∷ []) (Ref 4) 2 3 ≡ None
one_is_bad = refl

-- ---- boxes, of two actors

abbrev least_limits : Limits
least_limits = record { steps = 1; cells = 64; depth = 1; out = 0 }

abbrev some_application : Application
some_application = record { code = small; grants = granted; limits = least_limits }

-- one that stands between letters, or elsewhere, with this box, of which it has taken so many
abbrev standing : Stage → List Letter → ℕ → ActorView
standing stage letters taken = record (starting some_application) { stage = stage; box = letters; taken = taken }

abbrev idle : List Letter → ℕ → ActorView
idle = standing (Between Nil)

abbrev from_host : ℕ → Plain → Letter
from_host = letter host_number

-- A letter comes behind those that are in the box, and in no other.
host_posts_last : (posted (from_host 1 plain.Nil)
    (record { actors = idle [] 0 ∷ idle (letter 0 1 plain.True ∷ []) 0 ∷ []; host = [] }))
    ≡ record { actors = idle [] 0 ∷ idle (letter 0 1 plain.True ∷ from_host 1 plain.Nil ∷ []) 0 ∷ []; host = from_host 1 plain.Nil ∷ [] }
host_posts_last = refl

-- What is held is posted in its order, also to itself; then its actor is between two letters.
abbrev mixed : List Letter
mixed = letter 0 1 plain.Nil ∷ letter 0 0 plain.True ∷ letter 0 1 plain.False ∷ []

held_is_posted : (turn_of 0 1000 (record { actors = standing (Holding Nil mixed) [] 0 ∷ idle [] 0 ∷ []; host = [] })).view.actors
    ≡ record (idle (letter 0 0 plain.True ∷ []) 0) { posted = mixed } ∷ idle (letter 0 1 plain.Nil ∷ letter 0 1 plain.False ∷ []) 0 ∷ []
held_is_posted = refl

held_answers : (turn_of 0 1000 (record { actors = standing (Holding Nil mixed) [] 0 ∷ idle [] 0 ∷ []; host = [] })).answer
    ≡ Some (turn.Handled 3)
held_answers = refl

-- ---- turns that run nothing

-- All of its box is taken.
waits : turn_taken 0 1000 2 (idle (from_host 0 plain.Nil ∷ []) 1) ≡ answering turn.Waiting (idle (from_host 0 plain.Nil ∷ []) 1)
waits = refl

-- A letter whose selector the code doesn't name is taken.
abbrev strange : Letter
strange = record (from_host 0 plain.Nil) { sel = codes "pong:" }

is_unknown : turn_taken 0 1000 2 (idle (strange ∷ []) 0) ≡ answering turn.Unknown (idle (strange ∷ []) 1)
is_unknown = refl

-- One that has stopped answers so again, and nobody has a turn who isn't there.
stays_stopped : turn_taken 0 1000 2 (standing (Stopped (Ended (Limit Steps))) [] 0)
    ≡ answering (turn.Stopped (Ended (Limit Steps))) (standing (Stopped (Ended (Limit Steps))) [] 0)
stays_stopped = refl

nobody_is_there : (turn_of 2 1000 (record { actors = idle [] 0 ∷ idle [] 0 ∷ []; host = [] })).answer ≡ None
nobody_is_there = refl

-- ---- what was dealt with, and rest

-- A letter in whose send it stopped isn't dealt with.
stopped_in_the_second : dealt_with (Stopped BadOutbox) 2 ≡ 1
stopped_in_the_second = refl

rests : at_rest (record { actors = idle (strange ∷ []) 1 ∷ standing (Stopped BadOutbox) (strange ∷ []) 0 ∷ []; host = [] }) ≡ true
rests = refl

goes_on : at_rest (record { actors = idle (strange ∷ []) 0 ∷ []; host = [] }) ≡ false
goes_on = refl
