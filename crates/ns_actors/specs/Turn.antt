-- Turns of actors, and the posting of letters.
use Rattle.std.specs.Prelude.{ℕ, ◌+◌, List, [], ◌∷◌, ◌++◌, length, filter, slice_get, slice_set, ◌==◌, Option, Some, None, Bool, true, false}
use Rattle.ns_code.specs.Selector.{has_name}
use Rattle.ns_world.specs.declared.value.Value.{Value}
use Rattle.ns_world.specs.declared.ending.Ending.{Ending}
use Rattle.ns_world.specs.declared.ending.Ending.TheVariants.{Done, Error, Limit}
use Rattle.ns_facets.specs.Board.{value_of}
use Rattle.ns_moves.specs.State.{ending_of, world_of}
use Rattle.ns_moves.specs.Starts.{begun}
use Rattle.ns_session.specs.Member.{Application}
use Rattle.ns_session.specs.Turned.{turned}
use Rattle.ns_machine.specs.Asking.{named}
use Rattle.ns_actors.specs.declared.letter.Letter.{Letter}
use Rattle.ns_actors.specs.declared.turn.Stop.{Stop}
use Rattle.ns_actors.specs.declared.turn.Stop.TheVariants as stop
use Rattle.ns_actors.specs.declared.turn.ActorTurn.{ActorTurn}
use Rattle.ns_actors.specs.declared.turn.ActorTurn.TheVariants as turn
use Rattle.ns_actors.specs.Actor.{ActorView, Stage, Opening, Between, Sending, Holding, Stopped, starting}
use Rattle.ns_actors.specs.Outbox.{outbox}

-- actors, by their numbers, and all letters that the host posted
pub record ActorsView : Type 0 where
  pub actors : List ActorView
  pub host : List Letter

-- the number of the host, as the sender of a letter
abbrev pub host_number : ℕ
host_number = 4294967295

-- ---- boxes

-- the letters to an actor, and those from one
abbrev pub letters_to : ℕ → List Letter → List Letter
letters_to number letters = filter (λ (letter : Letter). letter.to == number) letters

abbrev pub letters_from : ℕ → List Letter → List Letter
letters_from number letters = filter (λ (letter : Letter). letter.from == number) letters

-- an actor with these letters behind those of its box
abbrev pub receiving : List Letter → ActorView → ActorView
receiving letters actor = record actor { box = actor.box ++ letters }

-- each of these letters in the box that it goes to, of actors that are numbered from that number on
abbrev pub delivered : ℕ → List Letter → List ActorView → List ActorView
delivered number letters [] = []
delivered number letters (actor ∷ actors) = receiving (letters_to number letters) actor ∷ delivered (number + 1) letters actors

-- the actors with one more, which has started
abbrev pub added : Application → ActorsView → ActorsView
added application view = record view { actors = view.actors ++ starting application ∷ [] }

-- a letter of the host is posted
abbrev pub posted : Letter → ActorsView → ActorsView
posted letter view = record { actors = delivered 0 (letter ∷ []) view.actors; host = view.host ++ letter ∷ [] }

-- ---- one actor

-- what a turn makes of one actor, and what it answers; an outbox is held
pub record Taken : Type 0 where
  pub actor : ActorView
  pub answer : ActorTurn

abbrev pub answering : ActorTurn → ActorView → Taken
answering answer actor = record { actor = actor; answer = answer }

abbrev pub stopping : Stop → ActorView → Taken
stopping why actor = answering (turn.Stopped why) (record actor { stage = Stopped why })

-- a send ended with a value that stands for these letters
abbrev pub with_outbox : Value → ActorView → Option (List Letter) → Taken
with_outbox behaviour actor None = stopping stop.BadOutbox actor
with_outbox behaviour actor (Some letters) =
    answering (turn.Handled (length letters)) (record actor { stage = Holding behaviour letters })

-- a run ended with a value: an opening gives the behaviour, and a send an outbox
abbrev pub done_in : Stage → ℕ → ℕ → Value → ActorView → Taken
done_in Opening k count value actor = answering turn.Opened (record actor { stage = Between value })
done_in (Sending behaviour) k count value actor =
    with_outbox behaviour actor (outbox actor.application.code (world_of actor.state).cells value k count)
done_in stage k count value actor = answering turn.Going actor

abbrev pub ran_to : Option Ending → ℕ → ℕ → ActorView → Taken
ran_to None k count actor = answering turn.Going actor
ran_to (Some (Done value)) k count actor = done_in actor.stage k count value actor
ran_to (Some (Error error)) k count actor = stopping (stop.Ended (Error error)) actor
ran_to (Some (Limit limit)) k count actor = stopping (stop.Ended (Limit limit)) actor

abbrev pub ran : ℕ → ℕ → ActorView → Taken
ran k count actor = ran_to (ending_of actor.state) k count actor

-- its run has a turn of so many steps
abbrev pub run_on : ℕ → ℕ → ℕ → ActorView → Taken
run_on k steps count actor = ran k count (record actor { state = turned actor.application.code steps actor.state })

-- an actor that has just taken a letter begins its send, where its code names the selector
abbrev pub sending : Value → Letter → ActorView → ActorView
sending behaviour letter actor =
    record actor {
      state = begun behaviour (named actor.application.code letter.sel) (value_of letter.arg ∷ []) actor.state;
      stage = Sending behaviour;
      taken = actor.taken + 1;
    }

abbrev pub taken_by : Bool → Value → Letter → ℕ → ℕ → ℕ → ActorView → Taken
taken_by true behaviour letter k steps count actor = run_on k steps count (sending behaviour letter actor)
taken_by false behaviour letter k steps count actor = answering turn.Unknown (record actor { taken = actor.taken + 1 })

-- between two letters it takes the next one, if there is one
abbrev pub next_taken : Option Letter → Value → ℕ → ℕ → ℕ → ActorView → Taken
next_taken None behaviour k steps count actor = answering turn.Waiting actor
next_taken (Some letter) behaviour k steps count actor =
    taken_by (has_name actor.application.code letter.sel) behaviour letter k steps count actor

-- the turn of actor k of so many, up to the posting of letters
abbrev pub turn_at : Stage → ℕ → ℕ → ℕ → ActorView → Taken
turn_at Opening k steps count actor = run_on k steps count actor
turn_at (Between behaviour) k steps count actor = next_taken (slice_get actor.box actor.taken) behaviour k steps count actor
turn_at (Sending behaviour) k steps count actor = run_on k steps count actor
turn_at (Holding behaviour letters) k steps count actor = answering (turn.Handled (length letters)) actor
turn_at (Stopped why) k steps count actor = answering (turn.Stopped why) actor

abbrev pub turn_taken : ℕ → ℕ → ℕ → ActorView → Taken
turn_taken k steps count actor = turn_at actor.stage k steps count actor

-- ---- all actors

-- what a turn leaves, and what it answers; nothing where there is no such actor
pub record AfterTurn : Type 0 where
  pub view : ActorsView
  pub answer : Option ActorTurn

-- the actors with that one
abbrev pub with_actor : ℕ → ActorView → ActorsView → ActorsView
with_actor k actor view = record view { actors = slice_set view.actors k actor }

-- the letters that an actor holds are in their boxes, and it is between two letters
abbrev pub posted_by : ℕ → Value → List Letter → ActorView → ActorsView → ActorsView
posted_by k behaviour letters actor view =
    record view {
      actors = delivered 0 letters
          (slice_set view.actors k (record actor { stage = Between behaviour; posted = actor.posted ++ letters }));
    }

-- what an actor holds is posted
abbrev pub settled : Stage → ℕ → ActorView → ActorsView → ActorsView
settled Opening k actor view = with_actor k actor view
settled (Between behaviour) k actor view = with_actor k actor view
settled (Sending behaviour) k actor view = with_actor k actor view
settled (Holding behaviour letters) k actor view = posted_by k behaviour letters actor view
settled (Stopped why) k actor view = with_actor k actor view

-- after a turn of actor k that came to this: what it holds is posted, or, where no memory is found for it, is held
abbrev pub posting : ℕ → Taken → ActorsView → ActorsView
posting k taken view = settled taken.actor.stage k taken.actor view

abbrev pub holding : ℕ → Taken → ActorsView → ActorsView
holding k taken view = with_actor k taken.actor view

-- the turn of so many steps of the actor of that number
abbrev pub turn_for : Option ActorView → ℕ → ℕ → ActorsView → AfterTurn
turn_for None k steps view = record { view = view; answer = None }
turn_for (Some actor) k steps view =
    record {
      view = posting k (turn_taken k steps (length view.actors) actor) view;
      answer = Some (turn_taken k steps (length view.actors) actor).answer;
    }

abbrev pub turn_of : ℕ → ℕ → ActorsView → AfterTurn
turn_of k steps view = turn_for (slice_get view.actors k) k steps view

-- the same where no memory is found to post an outbox: it is held, and nothing of it is posted
abbrev pub held_for : Option ActorView → ℕ → ℕ → ActorsView → ActorsView
held_for None k steps view = view
held_for (Some actor) k steps view = holding k (turn_taken k steps (length view.actors) actor) view

abbrev pub held_after : ℕ → ℕ → ActorsView → ActorsView
held_after k steps view = held_for (slice_get view.actors k) k steps view
