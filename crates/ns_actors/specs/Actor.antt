-- An actor: where its run stands, the letters that came to it and those that it posted.
use Rattle.std.specs.Prelude.{ℕ, ◌-◌, List, [], Option, Some, None}
use Rattle.ns_world.specs.declared.value.Value.{Value}
use Rattle.ns_moves.specs.Report.{report_line}
use Rattle.ns_moves.specs.State.{State, world_of}
use Rattle.ns_session.specs.Member.{Application, start_of}
use Rattle.ns_actors.specs.declared.letter.Letter.{Letter}
use Rattle.ns_actors.specs.declared.turn.Stop.{Stop}
use Rattle.ns_actors.specs.declared.turn.Stop.TheVariants.{Ended, BadOutbox}

-- Where an actor stands. It opens; or it has its behaviour, which is the value that its opening ended with: it is between two
-- letters, in the send of one, or holds the outbox of one, which isn't posted yet. Or it has stopped.
pub data Stage : Type 0 where
  Opening : Stage
  Between : (behaviour : Value) → Stage
  Sending : (behaviour : Value) → Stage
  Holding : (behaviour : Value) (outbox : List Letter) → Stage
  Stopped : (stop : Stop) → Stage

-- An actor: what it is, where its run stands, where it stands between its letters, its box, all that it posted, and how many
-- letters of its box it has taken.
pub record ActorView : Type 0 where
  pub application : Application
  pub state : State
  pub stage : Stage
  pub box : List Letter
  pub posted : List Letter
  pub taken : ℕ

-- an actor that has started
abbrev pub starting : Application → ActorView
starting application =
    record { application = application; state = start_of application; stage = Opening; box = []; posted = []; taken = 0 }

-- How many letters it has dealt with: all that it has taken, but for one that it is in the send of, whose outbox it holds, or
-- in whose send it stopped. While it opens it has taken none.
abbrev pub dealt_with : Stage → ℕ → ℕ
dealt_with Opening taken = taken
dealt_with (Between behaviour) taken = taken
dealt_with (Sending behaviour) taken = taken - 1
dealt_with (Holding behaviour outbox) taken = taken - 1
dealt_with (Stopped stop) taken = taken - 1

-- ---- what is told of it

-- what it has printed
abbrev pub transcript_of : ActorView → List ℕ
transcript_of actor = (world_of actor.state).output

abbrev pub line_of_stop : List (List ℕ) → ActorView → Stop → Option (List ℕ)
line_of_stop files actor (Ended ending) = Some (report_line (world_of actor.state).cells actor.application.code files ending)
line_of_stop files actor BadOutbox = None

-- the report line of the error or the limit with which it stopped, if it did so
abbrev pub report_at : Stage → List (List ℕ) → ActorView → Option (List ℕ)
report_at Opening files actor = None
report_at (Between behaviour) files actor = None
report_at (Sending behaviour) files actor = None
report_at (Holding behaviour outbox) files actor = None
report_at (Stopped stop) files actor = line_of_stop files actor stop

abbrev pub report_of : List (List ℕ) → ActorView → Option (List ℕ)
report_of files actor = report_at actor.stage files actor
