-- What the posting of letters asks and leaves.
use Rattle.std.specs.Prelude.{◌≡◌, ℕ, ◌+◌, List, [], ◌∷◌, slice_get, Option, Some, None}
use Rattle.ns_world.specs.declared.value.Value.{Value}
use Rattle.ns_actors.specs.declared.letter.Letter.{Letter}
use Rattle.ns_actors.specs.declared.turn.ActorTurn.{ActorTurn}
use Rattle.ns_actors.specs.Actor.{ActorView}
use Rattle.ns_actors.specs.Turn.{ActorsView, letters_to, posted_by, settled, turn_of}
use Rattle.ns_actors_calls.specs.declared.actor.Actor.{Actor}

-- What comes next to each of these actors, of which the first has that number, is what these letters have for it.
abbrev pub AreReady : ℕ → List Letter → List Actor → Type 0
AreReady number letters [] = Unit {0}
AreReady number letters (actor ∷ actors) = (actor.letters.coming ≡ letters_to number letters) × AreReady (number + 1) letters actors

-- actors without letters of the host
abbrev pub alone : List ActorView → ActorsView
alone actors = record { actors = actors; host = [] }

-- the actors after one of them has posted these letters
abbrev pub posted_from : Option ActorView → ℕ → Value → List Letter → List ActorView → List ActorView
posted_from None k behaviour letters actors = actors
posted_from (Some actor) k behaviour letters actors = (posted_by k behaviour letters actor (alone actors)).actors

abbrev pub posted_at : ℕ → Value → List Letter → List ActorView → List ActorView
posted_at k behaviour letters actors = posted_from (slice_get actors k) k behaviour letters actors

-- the actors after what one of them holds is posted
abbrev pub settled_of : Option ActorView → ℕ → List ActorView → List ActorView
settled_of None k actors = actors
settled_of (Some actor) k actors = (settled actor.stage k actor (alone actors)).actors

abbrev pub settled_at : ℕ → List ActorView → List ActorView
settled_at k actors = settled_of (slice_get actors k) k actors

-- A turn of so many steps of the actor of that number has led from one to the other, and answered this.
pub record HasTurned (k steps : ℕ) (answer : ActorTurn) (old new : ActorsView) : Type 0 where
  pub after : new ≡ (turn_of k steps old).view
  pub answer_is : Some answer ≡ (turn_of k steps old).answer
