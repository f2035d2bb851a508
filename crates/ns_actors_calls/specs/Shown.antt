-- What is seen of actors as they are kept.
use Rattle.std.specs.Prelude.{List, [], Option, Some, None, Bool}
use Rattle.ns_moves.specs.State.{State}
use Rattle.ns_session.specs.Member.{Application}
use Rattle.ns_actors.specs.declared.letter.Letter.{Letter}
use Rattle.ns_actors.specs.declared.turn.Stop.{Stop}
use Rattle.ns_actors.specs.Actor.{ActorView, Stage, Opening, Between, Sending, Holding, Stopped}
use Rattle.ns_actors.specs.Alone.{letters_at}
use Rattle.ns_actors.specs.Rounds.{rests_at}
use Rattle.ns_actors_calls.specs.declared.actor.Actor.{Actor}
use Rattle.ns_actors_calls.specs.declared.stage.Standing.{Standing}
use Rattle.ns_actors_calls.specs.declared.stage.Standing.TheVariants as standing

-- the letters of an outbox that is one
abbrev pub letters_or_none : Option (List Letter) → List Letter
letters_or_none (Some letters) = letters
letters_or_none None = []

-- the stage of an actor that stands so, in that state of its run: the letters that it holds are those of its outbox
abbrev pub stage_shown : Standing → Application → State → Stage
stage_shown standing.Opening application state = Opening
stage_shown (standing.Between behaviour) application state = Between behaviour
stage_shown (standing.Sending behaviour) application state = Sending behaviour
stage_shown (standing.Holding held) application state =
    Holding held.behaviour (letters_or_none (letters_at application held.from held.count state))
stage_shown (standing.Stopped why) application state = Stopped why

-- what it is
abbrev pub application_shown : Actor → Application
application_shown actor = record { code = actor.machine.code; grants = actor.machine.grants; limits = actor.limits }

-- an actor
abbrev pub shown : Actor → ActorView
shown actor =
    record {
      application = application_shown actor;
      state = actor.machine.state;
      stage = stage_shown actor.standing (application_shown actor) actor.machine.state;
      box = actor.letters.all;
      posted = actor.posted.all;
      taken = actor.taken;
    }

-- why an actor stopped, if it did
abbrev pub stop_at : Stage → Option Stop
stop_at Opening = None
stop_at (Between behaviour) = None
stop_at (Sending behaviour) = None
stop_at (Holding behaviour outbox) = None
stop_at (Stopped why) = Some why

abbrev pub stop_of : ActorView → Option Stop
stop_of actor = stop_at actor.stage

-- whether it rests
abbrev pub rests : ActorView → Bool
rests actor = rests_at actor.stage actor
