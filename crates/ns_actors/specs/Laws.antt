-- What is said of turns by the laws about them.
use Rattle.std.specs.Prelude.{◌≡◌, ◌<◌, ℕ, suc, ◌^◌, [], length, slice_get, true, false, ◌≤◌, List, Some}
use Rattle.std.specs.Option.{ForSome}
use Rattle.ns_code.specs.declared.program.CodeProgram.{CodeProgram}
use Rattle.ns_base.specs.declared.limits.Limits.{Limits}
use Rattle.ns_code.specs.Selector.{has_name}
use Rattle.ns_moves.specs.Charging.{will_charge}
use Rattle.ns_moves.specs.Doubling.{times}
use Rattle.ns_moves.specs.State.{State, world_of}
use Rattle.ns_moves.specs.Turn.{is_still}
use Rattle.ns_session.specs.Member.{Application, MayStart}
use Rattle.ns_session.specs.Reached.{StateIsReached}
use Rattle.ns_actors.specs.declared.letter.Letter.{Letter}
use Rattle.ns_actors.specs.Actor.{ActorView, Between}
use Rattle.ns_actors.specs.Alone.{letters_at}
use Rattle.ns_world.specs.Heap.{Heap, heap_size}
use Rattle.ns_world.specs.declared.value.Value.{Value}
use Rattle.ns_actors.specs.Outbox.{outbox}
use Rattle.ns_actors.specs.Rounds.{at_rest, power_of_rounds, rests_at, round_of, rounds}
use Rattle.ns_actors.specs.Stated.{AreActors, BoxesAgree, IsActor, LetterIsGood, OthersReceive, PostsAlone, StandsAlone}
use Rattle.ns_actors.specs.Turn.{ActorsView, added, host_number, held_after, posted, sending, turn_of}

-- A turn of one actor changes no other, but for letters behind its box.
abbrev pub TurnsKeepOthers : Type 0
TurnsKeepOthers = (k steps : ℕ) (view : ActorsView) → OthersReceive k view (turn_of k steps view).view

-- ---- boxes

-- no actors
abbrev pub nobody : ActorsView
nobody = record { actors = []; host = [] }

-- The boxes agree with what was posted after one more actor, after a letter of the host, and after a turn.
abbrev pub AddingKeepsBoxes : Type 0
AddingKeepsBoxes = (application : Application) (view : ActorsView) → AreActors view → BoxesAgree (added application view)

abbrev pub PostingKeepsBoxes : Type 0
PostingKeepsBoxes = (letter : Letter) (view : ActorsView) → letter.from ≡ host_number → AreActors view → BoxesAgree (posted letter view)

abbrev pub TurnsKeepBoxes : Type 0
TurnsKeepBoxes = (k steps : ℕ) (view : ActorsView) → AreActors view → BoxesAgree (turn_of k steps view).view

-- and where no memory is found to post an outbox
abbrev pub HeldTurnsKeepBoxes : Type 0
HeldTurnsKeepBoxes = (k steps : ℕ) (view : ActorsView) → AreActors view → BoxesAgree (held_after k steps view)

-- ---- standing and posting alone

-- Each actor stands, and has posted, as it would alone.
abbrev pub AllAlone : ActorsView → Type 0
AllAlone view =
    (number : ℕ) → ForSome (slice_get view.actors number) (λ (actor : ActorView). StandsAlone actor × PostsAlone number (length view.actors) actor)

-- So they do after one more actor, after a letter of the host, and after a turn, also one whose outbox is held.
abbrev pub AddingKeepsAlone : Type 0
AddingKeepsAlone = (application : Application) (view : ActorsView) → AreActors view → AllAlone (added application view)

abbrev pub PostingKeepsAlone : Type 0
PostingKeepsAlone = (letter : Letter) (view : ActorsView) → AreActors view → AllAlone (posted letter view)

abbrev pub TurnsKeepAlone : Type 0
TurnsKeepAlone = (k steps : ℕ) (view : ActorsView) → AreActors view → AllAlone (turn_of k steps view).view

abbrev pub HeldTurnsKeepAlone : Type 0
HeldTurnsKeepAlone = (k steps : ℕ) (view : ActorsView) → AreActors view → AllAlone (held_after k steps view)

-- ---- the whole invariant

-- All that holds of actors holds after one more, after a letter of the host, and after a turn, also one whose outbox is held.
abbrev pub AddingKeepsActors : Type 0
AddingKeepsActors =
    (application : Application) (view : ActorsView) → MayStart application → application.grants.board ≡ false → length view.actors < 16
    → AreActors view → AreActors (added application view)

abbrev pub PostingKeepsActors : Type 0
PostingKeepsActors =
    (letter : Letter) (view : ActorsView) → LetterIsGood (length view.actors) letter → letter.from ≡ host_number → AreActors view
    → AreActors (posted letter view)

abbrev pub TurnsKeepActors : Type 0
TurnsKeepActors = (k steps : ℕ) (view : ActorsView) → AreActors view → AreActors (turn_of k steps view).view

abbrev pub HeldTurnsKeepActors : Type 0
HeldTurnsKeepActors = (k steps : ℕ) (view : ActorsView) → AreActors view → AreActors (held_after k steps view)

-- ---- rounds

-- A turn of an actor that rests changes nothing.
abbrev pub RestingTurnsStay : Type 0
RestingTurnsStay =
    (k steps : ℕ) (view : ActorsView) (actor : ActorView) → slice_get view.actors k ≡ Some actor → rests_at actor.stage actor ≡ true
    → (turn_of k steps view).view ≡ view

-- So a round of actors that rest changes nothing.
abbrev pub RestingRoundsStay : Type 0
RestingRoundsStay = (steps : ℕ) (view : ActorsView) → at_rest view ≡ true → round_of steps view ≡ view

-- Each round of actors that don't all rest leaves less to do.
abbrev pub RoundsLower : (ActorsView → ℕ) → ActorsView → Type 0
RoundsLower left view =
    (n : ℕ) → at_rest (times (round_of 1000) n view) ≡ false → left (times (round_of 1000) (suc n) view) < left (times (round_of 1000) n view)

-- Where at first there is less than two to the power, the rounds so end where all rest.
abbrev pub RoundsEnd : Type 0
RoundsEnd =
    (limits : Limits) (view : ActorsView) (left : ActorsView → ℕ) → RoundsLower left view → left view < 2 ^ power_of_rounds (length view.actors) limits
    → at_rest (rounds limits view) ≡ true

-- ---- outboxes

-- An outbox has at most as many letters as the world has cells.
abbrev pub OutboxesAreShort : Type 0
OutboxesAreShort =
    (code : CodeProgram) (heap : Heap) (value : Value) (k count : ℕ) (letters : List Letter) → outbox code heap value k count ≡ Some letters
    → length letters ≤ heap_size heap

-- So the one with which a reached run has ended has at most as many as its limit on cells.
abbrev pub EndsAreShort : Type 0
EndsAreShort =
    (application : Application) (state : State) (k count : ℕ) (letters : List Letter) → StateIsReached application state
    → letters_at application k count state ≡ Some letters → length letters ≤ application.limits.cells

-- A reached run has used no more steps than its limit.
abbrev pub StepsAreWithin : Type 0
StepsAreWithin =
    (application : Application) (state : State) → StateIsReached application state → (world_of state).steps ≤ application.limits.steps

-- ---- sends

-- A send begins: it waits in a state that is reached, nothing has changed in the world, and its first move charges a step.
pub record SendBegins (application : Application) (old new : State) : Type 0 where
  pub reached : StateIsReached application new
  pub world : world_of new ≡ world_of old
  pub on : is_still new ≡ false
  pub charges : will_charge application.code new ≡ true

abbrev pub SendsBegin : Type 0
SendsBegin =
    (k count : ℕ) (behaviour : Value) (letter : Letter) (actor : ActorView) → IsActor k count actor → actor.stage ≡ Between behaviour
    → slice_get actor.box actor.taken ≡ Some letter → has_name actor.application.code letter.sel ≡ true
    → SendBegins actor.application actor.state (sending behaviour letter actor).state
