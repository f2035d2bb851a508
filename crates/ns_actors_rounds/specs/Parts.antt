-- What is told in parts of actors that rest.
use Rattle.std.specs.Prelude.{ℕ, List, map}
use Rattle.ns_code.specs.declared.program.CodeProgram.{CodeProgram}
use Rattle.ns_json.specs.declared.saying.Actor.{Actor}
use Rattle.ns_json.specs.declared.saying.Stage as parts
use Rattle.ns_json.specs.declared.saying.Stage.TheVariants as part
use Rattle.ns_moves.specs.State.{State, world_of}
use Rattle.ns_run_told.specs.Told.{told_end}
use Rattle.ns_actors.specs.Actor.{ActorView, Stage, Opening, Between, Sending, Holding, Stopped}
use Rattle.ns_actors.specs.Turn.{ActorsView}
use Rattle.ns_actors.specs.declared.turn.Stop.TheVariants.{Ended, BadOutbox}

-- where an actor is whose run stands there: it rests, or it stopped in an end of its run or at what is no outbox
abbrev pub stage_told : Stage → CodeProgram → State → parts.Stage
stage_told Opening code state = part.Rests
stage_told (Between behaviour) code state = part.Rests
stage_told (Sending behaviour) code state = part.Rests
stage_told (Holding behaviour letters) code state = part.Rests
stage_told (Stopped (Ended ending)) code state = part.Stopped (told_end (world_of state).cells code code.files ending)
stage_told (Stopped BadOutbox) code state = part.BadOutbox

-- an actor: where it is, what it printed, and how many letters it has taken
abbrev pub part_of : ActorView → Actor
part_of actor =
    record {
      stage = stage_told actor.stage actor.application.code actor.state;
      output = (world_of actor.state).output;
      taken = actor.taken;
    }

-- all of them
abbrev pub parts_of : ActorsView → List Actor
parts_of view = map part_of view.actors
