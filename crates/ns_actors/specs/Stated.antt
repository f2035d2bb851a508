-- What holds of actors after every list of calls.
use Rattle.std.specs.Prelude.{◌≡◌, ◌≢◌, ◌<◌, ◌≤◌, ℕ, ◌-◌, List, [], length, take, option_map, slice_get, Some, All, IsTrue, IsSome, false, ◌==◌, if◌then◌else◌}
use Rattle.std.specs.Option.{option_map_or, ForSome}
use Rattle.ns_code.specs.Selector.{has_name, text_arity}
use Rattle.ns_base.specs.Spelling.{is_selector}
use Rattle.ns_world.specs.declared.ending.Ending.TheVariants.{Done}
use Rattle.ns_run_code.specs.Machine.{rested}
use Rattle.ns_moves.specs.State.{ending_of, world_of}
use Rattle.ns_moves.specs.Turn.{is_still}
use Rattle.ns_session.specs.Member.{MayStart}
use Rattle.ns_session.specs.Reached.{StateIsReached}
use Rattle.ns_world.specs.declared.value.Value.{Value}
use Rattle.ns_world.specs.Lawful.{IsLiveValue}
use Rattle.ns_actors.specs.declared.letter.Letter.{Letter}
use Rattle.ns_actors.specs.declared.turn.Stop.{Stop}
use Rattle.ns_actors.specs.declared.turn.Stop.TheVariants as stop
use Rattle.ns_actors.specs.Actor.{ActorView, Stage, Opening, Between, Sending, Holding, Stopped, dealt_with}
use Rattle.ns_actors.specs.Alone.{alone, behaviour_of, letters_at, posts}
use Rattle.ns_actors.specs.Turn.{ActorsView, host_number, letters_from, letters_to, receiving}

-- ---- boxes: points 1 and 2

-- the box of an actor, and what an actor or the host has posted; none of a number that isn't theirs
abbrev pub box_of : ActorsView → ℕ → List Letter
box_of view number = option_map_or (λ (actor : ActorView). actor.box) (slice_get view.actors number) []

abbrev pub posted_of : ActorsView → ℕ → List Letter
posted_of view number =
    if number == host_number then view.host else option_map_or (λ (actor : ActorView). actor.posted) (slice_get view.actors number) []

-- The letters in the box of one that are from another are, in order, the letters of that other that are to it, each once.
abbrev pub BoxesAgree : ActorsView → Type 0
BoxesAgree view =
    (a b : ℕ) → b < length view.actors → letters_from a (box_of view b) ≡ letters_to b (posted_of view a)

-- What it has taken is a beginning of its box.
abbrev pub TakesInOrder : ActorView → Type 0
TakesInOrder actor = actor.taken ≤ length actor.box

-- ---- states: points 3 to 5

-- Where its run comes to rest from where it stands is where it comes on its own with the letters that it has taken.
abbrev pub StandsAlone : ActorView → Type 0
StandsAlone actor = rested actor.application.code actor.state ≡ alone actor.application (take actor.taken actor.box)

-- What it has posted are the outboxes of the sends of the letters that it has dealt with, each of which ended with one.
abbrev pub PostsAlone : ℕ → ℕ → ActorView → Type 0
PostsAlone k count actor = posts actor.application k count (take (dealt_with actor.stage actor.taken) actor.box) ≡ Some actor.posted

-- It has opened: this is its behaviour, which is live.
pub record HasOpened (actor : ActorView) (behaviour : Value) : Type 0 where
  pub is : behaviour_of actor.application ≡ behaviour
  pub live : IsLiveValue (world_of actor.state).cells actor.application.code behaviour

-- It rests with a value.
abbrev pub HasAnswered : ActorView → Type 0
HasAnswered actor = ForSome (ending_of actor.state) (λ ending. (value : Value) × (ending ≡ Done value)) × IsSome (ending_of actor.state)

-- a run that has stopped in such an ending
abbrev pub HasStopped : Stop → ℕ → ℕ → ActorView → Type 0
HasStopped (stop.Ended ending) k count actor = ending_of actor.state ≡ Some ending
HasStopped stop.BadOutbox k count actor = HasAnswered actor

-- The letter that it took last is one whose selector its code names.
abbrev pub KnowsLast : ActorView → Type 0
KnowsLast actor = ForSome (slice_get actor.box (actor.taken - 1)) (λ (letter : Letter). IsTrue (has_name actor.application.code letter.sel))

-- What its stage says of it.
abbrev pub StandsAt : Stage → ℕ → ℕ → ActorView → Type 0
StandsAt Opening k count actor = actor.taken ≡ 0
StandsAt (Between behaviour) k count actor = HasOpened actor behaviour × HasAnswered actor
StandsAt (Sending behaviour) k count actor = HasOpened actor behaviour × (1 ≤ actor.taken) × KnowsLast actor
StandsAt (Holding behaviour letters) k count actor =
    HasOpened actor behaviour × (1 ≤ actor.taken) × HasAnswered actor × (letters_at actor.application k count actor.state ≡ Some letters) × KnowsLast actor
StandsAt (Stopped why) k count actor = IsTrue (is_still actor.state) × HasStopped why k count actor

-- Its letters have selectors of one argument, and go to actors that are there.
pub record LetterIsGood (count : ℕ) (letter : Letter) : Type 0 where
  pub selector : IsTrue (is_selector letter.sel)
  pub one : text_arity letter.sel ≡ 1
  pub there : letter.to < count

-- An actor of so many, by its number.
pub record IsActor (k count : ℕ) (actor : ActorView) : Type 0 where
  pub may : MayStart actor.application
  pub boardless : actor.application.grants.board ≡ false
  pub reached : StateIsReached actor.application actor.state
  pub stage : StandsAt actor.stage k count actor
  pub takes : TakesInOrder actor
  pub alone : StandsAlone actor
  pub posts : PostsAlone k count actor
  pub box : All (LetterIsGood count) actor.box
  pub posted : All (λ (letter : Letter). LetterIsGood count letter × (letter.from ≡ k)) actor.posted

-- What the type keeps of its fields.
pub record AreActors (view : ActorsView) : Type 0 where
  pub few : length view.actors ≤ 16
  pub each : (k : ℕ) → ForSome (slice_get view.actors k) (λ (actor : ActorView). IsActor k (length view.actors) actor)
  pub host : All (λ (letter : Letter). LetterIsGood (length view.actors) letter × (letter.from ≡ host_number)) view.host
  pub boxes : BoxesAgree view

-- ---- point 6

-- A turn of one changes no other: of each other actor, letters come behind its box alone.
abbrev pub OthersReceive : ℕ → ActorsView → ActorsView → Type 0
OthersReceive k old new =
    (other : ℕ) → other ≢ k
    → (letters : List Letter) × (slice_get new.actors other ≡ option_map (receiving letters) (slice_get old.actors other))
