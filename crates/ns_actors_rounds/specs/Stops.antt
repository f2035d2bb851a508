-- The same of an actor by why it stopped, if it did.
use Rattle.std.specs.Prelude.{◌≡◌, ℕ, Option, Some, None}
use Rattle.ns_code.specs.declared.program.CodeProgram.{CodeProgram}
use Rattle.ns_json.specs.declared.saying.Actor.{Actor}
use Rattle.ns_json.specs.declared.saying.Stage as parts
use Rattle.ns_json.specs.declared.saying.Stage.TheVariants as part
use Rattle.ns_moves.specs.State.{State, ending_of, world_of}
use Rattle.ns_run_told.specs.Told.{told_end}
use Rattle.ns_actors.specs.declared.turn.Stop.{Stop}
use Rattle.ns_actors.specs.declared.turn.Stop.TheVariants.{Ended, BadOutbox}

-- where an actor is whose run stands there, and which stopped for that, if it did
abbrev pub stage_for : CodeProgram → State → Option Stop → parts.Stage
stage_for code state None = part.Rests
stage_for code state (Some (Ended ending)) = part.Stopped (told_end (world_of state).cells code code.files ending)
stage_for code state (Some BadOutbox) = part.BadOutbox

-- what is told of it
abbrev pub told_so : CodeProgram → State → Option Stop → ℕ → Actor
told_so code state why taken = record { stage = stage_for code state why; output = (world_of state).output; taken = taken }

-- A run whose actor stopped in an end of it has ended so.
abbrev pub StopsIn : State → Option Stop → Type 0
StopsIn state None = Unit {0}
StopsIn state (Some (Ended ending)) = ending_of state ≡ Some ending
StopsIn state (Some BadOutbox) = Unit {0}
