-- A turn of the run of an actor that is kept, and what it comes to.
use Rattle.std.proofs.Common.{◌≡◌, ℕ, List, refl, sym, ap, ◌∙◌, subst, Option, Some, None, length, IsSome, is_some}
use Rattle.std.specs.Prelude.{option_map}
use Rattle.std.proofs.lemmas.Option.{same_Some}
use Rattle.ns_code.specs.declared.program.CodeProgram.{CodeProgram}
use Rattle.ns_world.specs.World.{World}
use Rattle.ns_world.specs.declared.ending.Ending.{Ending}
use Rattle.ns_world.specs.declared.ending.Ending.TheVariants.{Done, Error, Limit}
use Rattle.ns_world.specs.declared.value.Value.{Value}
use Rattle.ns_machine.specs.Machine.{MachineView}
use Rattle.ns_moves.specs.State.{State, ending_of, world_of}
use Rattle.ns_moves.specs.Turn.{Turns}
use Rattle.ns_moves.specs.Valid.{Valid}
use Rattle.ns_session.specs.Member.{Application}
use Rattle.ns_session.specs.RobinLaws.{TurnsAreTurned}
use Rattle.ns_session.specs.Turned.{turned}
use Rattle.ns_actors.specs.declared.letter.Letter.{Letter}
use Rattle.ns_actors.specs.declared.turn.ActorTurn.TheVariants as turn
use Rattle.ns_actors.specs.declared.turn.Stop.TheVariants as stop
use Rattle.ns_actors.specs.Actor.{ActorView, Stage, Holding}
use Rattle.ns_actors.specs.Alone.{letters_in}
use Rattle.ns_actors.specs.Outbox.{outbox}
use Rattle.ns_actors.specs.Stated.{HasAnswered, IsActor, StandsAt}
use Rattle.ns_actors.specs.Turn.{answering, stopping, with_outbox}
use Rattle.ns_actors_calls.specs.declared.actor.Actor.{Actor}
use Rattle.ns_actors_calls.specs.declared.stage.Held.{Held}
use Rattle.ns_actors_calls.specs.declared.stage.Standing.{Standing}
use Rattle.ns_actors_calls.specs.declared.stage.Standing.TheVariants as standing
use Rattle.ns_actors_calls.specs.Shown.{application_shown, letters_or_none, shown, stage_shown}
use Rattle.ns_actors_calls.specs.Steps.{HoldsOutbox, IsRunning, outbox_at}

-- ---- by where it stands

-- an actor that stands so is at that stage
stage_as : (actor : Actor) (stands : Standing) → actor.standing ≡ stands
    → (shown actor).stage ≡ stage_shown stands (application_shown actor) actor.machine.state
stage_as actor stands e = ap (λ (s : Standing). stage_shown s (application_shown actor) actor.machine.state) e

-- ---- a turn of its run

running_stage : (stands : Standing) (application : Application) (one other : State) → IsRunning stands
    → stage_shown stands application one ≡ stage_shown stands application other
running_stage standing.Opening application one other run = refl
running_stage (standing.Between behaviour) application one other run = absurd run
running_stage (standing.Sending behaviour) application one other run = refl
running_stage (standing.Holding held) application one other run = absurd run
running_stage (standing.Stopped why) application one other run = absurd run

-- an actor with its machine in another state
abbrev in_state : Actor → State → Actor
in_state actor state = record actor { machine = record actor.machine { state = state } }

shown_running : (actor : Actor) (state : State) → IsRunning actor.standing → shown (in_state actor state) ≡ record (shown actor) { state = state }
shown_running actor state run =
    ap (λ (stage : Stage). record (shown actor) { state = state; stage = stage })
    (running_stage actor.standing (shown actor).application state actor.machine.state run)

-- a turn of a machine leaves what the function gives
pub run_is : (old new : MachineView) (steps : ℕ) → TurnsAreTurned old.code old.grants → Valid old.code old.grants old.state
    → Turns old.code steps old.state new.state → new ≡ record old { state = new.state } → new ≡ record old { state = turned old.code steps old.state }
run_is old new steps law valid turns rest =
    rest ∙ ap (λ (state : State). record old { state = state }) (law steps old.state new.state valid turns)

-- and an actor with that machine is in that state
pub run_shown : (actor : Actor) (machine : MachineView) (state : State) → IsRunning actor.standing → machine ≡ record actor.machine { state = state }
    → shown (record actor { machine = machine }) ≡ record (shown actor) { state = state }
run_shown actor machine state run e =
    ap (λ (m : MachineView). shown (record actor { machine = m })) e ∙ shown_running actor state run

-- ---- outboxes

done_outbox : (k count : ℕ) (actor : ActorView) (value : Value) → ending_of actor.state ≡ Some (Done value)
    → outbox_at k count actor ≡ outbox actor.application.code (world_of actor.state).cells value k count
done_outbox k count actor value e = ap (λ (o : Option Ending). letters_in o actor.application k count actor.state) e

-- as many letters as were counted in its cells
pub outbox_sized : (k count : ℕ) (actor : ActorView) (value : Value) (code : CodeProgram) (world : World) (size : Option ℕ)
    → ending_of actor.state ≡ Some (Done value) → code ≡ actor.application.code → world ≡ world_of actor.state
    → option_map length (outbox code world.cells value k count) ≡ size → option_map length (outbox_at k count actor) ≡ size
outbox_sized k count actor value code world size e codes worlds sized =
    ap (λ (o : Option (List Letter)). option_map length o) (done_outbox k count actor value e)
    ∙ (ap (λ (w : World). option_map length (outbox actor.application.code w.cells value k count)) (sym worlds)
    ∙ (ap (λ (c : CodeProgram). option_map length (outbox c world.cells value k count)) (sym codes) ∙ sized))

-- and the same letters
pub outbox_read : (k count : ℕ) (actor : ActorView) (value : Value) (code : CodeProgram) (world : World) (letters : List Letter)
    → ending_of actor.state ≡ Some (Done value) → code ≡ actor.application.code → world ≡ world_of actor.state
    → outbox code world.cells value k count ≡ Some letters → outbox_at k count actor ≡ Some letters
outbox_read k count actor value code world letters e codes worlds are =
    done_outbox k count actor value e
    ∙ (ap (λ (w : World). outbox actor.application.code w.cells value k count) (sym worlds)
    ∙ (ap (λ (c : CodeProgram). outbox c world.cells value k count) (sym codes) ∙ are))

pub held_is : (behaviour : Value) (actor : ActorView) (letters : Option (List Letter)) (size : ℕ) → option_map length letters ≡ Some size
    → answering (turn.Handled size) (record actor { stage = Holding behaviour (letters_or_none letters) }) ≡ with_outbox behaviour actor letters
held_is behaviour actor (Some letters) size e =
    ap (λ (n : ℕ). answering (turn.Handled n) (record actor { stage = Holding behaviour letters })) (sym (same_Some (length letters) size e))
held_is behaviour actor None size e = absurd (cc (e))

pub bad_is : (behaviour : Value) (actor : ActorView) (letters : Option (List Letter)) → option_map length letters ≡ None
    → stopping stop.BadOutbox actor ≡ with_outbox behaviour actor letters
bad_is behaviour actor (Some letters) e = absurd (cc (e))
bad_is behaviour actor None e = refl

-- ---- what it holds

-- an actor that holds an outbox has one
holds_outbox : (k count : ℕ) (actor : ActorView) (behaviour : Value) (letters : List Letter) → IsActor k count actor → actor.stage ≡ Holding behaviour letters
    → outbox_at k count actor ≡ Some letters
holds_outbox k count actor behaviour letters is e =
    (subst (λ (s : Stage). StandsAt s k count actor) e is.stage).3

-- one that is kept stands so
pub holds_from : (k count : ℕ) (actor : Actor) (held : Held) → actor.standing ≡ standing.Holding held → IsActor k count (shown actor)
    → HoldsOutbox k count held.behaviour (shown actor)
holds_from k count actor held e is =
    let at = stage_as actor (standing.Holding held) e in
    record {
      outbox = letters_or_none (outbox_at held.from held.count (shown actor));
      stage_is = at;
      outbox_is = holds_outbox k count (shown actor) held.behaviour (letters_or_none (outbox_at held.from held.count (shown actor))) is at;
    }

pub holds_some : (k count : ℕ) (actor : Actor) (held : Held) → actor.standing ≡ standing.Holding held → IsActor k count (shown actor)
    → IsSome (outbox_at k count (shown actor))
holds_some k count actor held e is = ap is_some (holds_from k count actor held e is).outbox_is

-- ---- the value with which its run has ended

-- what has an outbox has ended with a value
pub has_answered : (k count : ℕ) (actor : ActorView) → IsSome (outbox_at k count actor) → HasAnswered actor
has_answered k count actor some = by (ending_of actor.state) refl some
  where
    by : (ending : Option Ending) → ending_of actor.state ≡ ending → IsSome (letters_in ending actor.application k count actor.state) → HasAnswered actor
    by (Some (Done value)) e some =
        (λ other is. (value, sym (same_Some (Done value) other (sym e ∙ is))), ap is_some e)
    by (Some (Error error)) e some = absurd (cc (some))
    by (Some (Limit limit)) e some = absurd (cc (some))
    by None e some = absurd (cc (some))
